-- Text put into lent bytes: from a position on, with the position behind it.
use Rattle.std.specs.Prelude.{◌≡◌, refl, List, [], ◌∷◌, ◌++◌, ℕ, zero, suc, ◌+◌, ◌<◌, ◌≤◌, length, take, get_or}
use Rattle.std.proofs.Common.{ap, sym, ◌∙◌, le_of_suc-le-suc, add-one, arith, length-append, take-suc, length-take-le}
use Rattle.spec_words.specs.Words.{store}
use Rattle.spec_words.specs.Blocks.{store_all, store_none, store_more, store_append}

-- m' has the text ws from position a on and is m elsewhere; r is the position behind the text. Past the end of m nothing
-- is stored.
pub record Puts (m : List ℕ) (a : ℕ) (ws m' : List ℕ) (r : ℕ) : Type 0 where
  pub stored : m' ≡ store_all m a ws
  pub end : r ≡ a + length ws

-- text that is put under another name
pub named : {m ws m1 us : List ℕ} {a r : ℕ} → ws ≡ us → Puts m a ws m1 r → Puts m a us m1 r
named e p = rw (← e) p

-- one text behind another
pub puts_then : {m xs m1 ys m2 : List ℕ} {a b c : ℕ} → Puts m a xs m1 b → Puts m1 b ys m2 c → Puts m a (xs ++ ys) m2 c
puts_then {m} {xs} {m1} {ys} {m2} {a} {b} {c} p q =
    record {
      stored =
          q.stored ∙ ap (λ (l : List ℕ). store_all l b ys) p.stored ∙ ap (λ (k : ℕ). store_all (store_all m a xs) k ys) p.end
          ∙ sym (store_append xs m a ys);
      end = let e = p.end in let f = q.end in let l = length-append xs ys in omega (arith, e, f, l);
    }

-- a single byte
pub puts_one : (m : List ℕ) (a v : ℕ) {m' : List ℕ} → m' ≡ store m a v → Puts m a (v ∷ []) m' (a + 1)
puts_one m a v e = record { stored = e ∙ sym (store_more m a v [] ∙ store_none (store m a v) (suc a)); end = refl }

-- the first bytes of a text, and one more of them
pub puts_first : (m : List ℕ) (a : ℕ) → Puts m a [] m (a + 0)
puts_first m a = record { stored = sym (store_none m a); end = refl }

pub puts_more : (m s : List ℕ) (a i : ℕ) {m1 m2 : List ℕ} → i < length s → Puts m a (take i s) m1 (a + i) → m2 ≡ store m1 (a + i) (get_or s i 0)
    → Puts m a (take (i + 1) s) m2 (a + (i + 1))
puts_more m s a i {m1} {m2} h p e =
    record {
      stored = q.stored ∙ ap (store_all m a) (sym (take-suc s i 0 h) ∙ ap (λ (k : ℕ). take k s) (sym (add-one i)));
      end = ap (λ (k : ℕ). a + k) (sym (length-take-le (i + 1) s (omega arith)));
    }
  where
    q : Puts m a (take i s ++ (get_or s i 0 ∷ [])) m2 (a + i + 1)
    q = puts_then p (puts_one m1 (a + i) (get_or s i 0) e)

-- the text where all of it fits
fits : (ws m : List ℕ) → length ws ≤ length m → take (length ws) (store_all m zero ws) ≡ ws
unfolding store_all
fits [] m h = refl
fits (w ∷ ws) [] h = let z : ⊥ = omega arith in absurd z
fits (w ∷ ws) (x ∷ m) h = ap (λ (l : List ℕ). w ∷ l) (fits ws m (le_of_suc-le-suc h))

pub puts_whole : {m ws m' : List ℕ} {r : ℕ} → Puts m 0 ws m' r → length ws ≤ length m → take r m' ≡ ws
puts_whole {m} {ws} {m'} {r} p h =
    ap (λ (k : ℕ). take k m') (p.end ∙ (let z : 0 + length ws ≡ length ws = omega arith in z))
    ∙ ap (take (length ws)) p.stored
    ∙ fits ws m h
