-- THE VALUES LEFT IN A QUEUE: their lines, and the values as they are read one after the other until there is none.
use Rattle.std.specs.Prelude.{◌≡◌, refl, ℕ, zero, suc, ◌+◌, ◌-◌, ◌<◌, ◌≤◌, length, drop}
use Rattle.std.proofs.Math.Path.{ap}
use Rattle.std.proofs.Common.{sym, ◌∙◌, subst, suc-add}
use mathlib.Core.List.{List, [], ◌∷◌, ◌++◌, append-nil, append_assoc}
use Rattle.std.proofs.Math.Option.{Option, none, some}
use Rattle.std.proofs.Math.Nat.{sub-zero}
use native.Mathlib.Omega.{arith}
use Rattle.std.proofs.Math.ListN.{take, get_elem?}
use Rattle.std.proofs.Math.Seq.{drop-nil, append_snoc}
use Rattle.spec_lists.specs.Tests.{turn_left, turns_over}
use Rattle.text.specs.Puts.{Puts, puts_then, puts_first}
use Rattle.run_text.specs.Lines.{left_line}
use Rattle.block_text.specs.Blocks.{Block, block}

-- THE LINES of the values vs left in queue q
unfoldable pub value_lines : ℕ → List ℕ → List ℕ
value_lines q [] = []
value_lines q (v ∷ vs) = left_line q v ++ value_lines q vs

-- lines of values behind values, so what is written in blocks is the whole
pub lines_behind : (q : ℕ) (vs us : List ℕ) → value_lines q (vs ++ us) ≡ value_lines q vs ++ value_lines q us
unfolding value_lines
lines_behind q [] us = refl
lines_behind q (v ∷ vs) us =
    ap (λ (l : List ℕ). left_line q v ++ l) (lines_behind q vs us) ∙ sym (append_assoc (left_line q v) (value_lines q vs) (value_lines q us))

-- no line, one more, and all
pub no_values : (q : ℕ) (m : List ℕ) → Puts m 0 (value_lines q []) m 0
unfolding value_lines
no_values q m = puts_first m 0

one_value : (q v : ℕ) → value_lines q (v ∷ []) ≡ left_line q v
unfolding value_lines
one_value q v = append-nil (left_line q v)

-- the lines of values under another name
pub lines_of : {m vs us : List ℕ} {r : ℕ} (q : ℕ) → vs ≡ us → Block m r (value_lines q vs) → Block m r (value_lines q us)
lines_of q e b = rw (← e) b

-- THE VALUES that f gives from number i on until it gives none, at most k
unfoldable pub onto : Option ℕ → List ℕ → List ℕ
onto none vs = []
onto (some v) vs = v ∷ vs

unfoldable pub read_from : (ℕ → Option ℕ) → ℕ → ℕ → List ℕ
read_from f zero i = []
read_from f (suc k) i = let rest = read_from f k (i + 1) in onto (f i) rest

pub read_same : {f g : ℕ → Option ℕ} → ((i : ℕ) → f i ≡ g i) → (k i : ℕ) → read_from f k i ≡ read_from g k i
unfolding read_from
read_same e zero i = refl
read_same {f} {g} e (suc k) i = ap (λ (o : Option ℕ). onto o (read_from f k (i + 1))) (e i) ∙ ap (onto (g i)) (read_same e k (i + 1))

-- the values of a list
read_rest : (x : ℕ) (xs : List ℕ) (k i : ℕ) → read_from (get_elem? (x ∷ xs)) k (suc i) ≡ read_from (get_elem? xs) k i
unfolding read_from
read_rest x xs zero i = refl
read_rest x xs (suc k) i =
    ap (onto (get_elem? xs i)) (ap (read_from (get_elem? (x ∷ xs)) k) (suc-add i 1) ∙ read_rest x xs k (i + 1))

pub read_list : (xs : List ℕ) (k i : ℕ) → read_from (get_elem? xs) k i ≡ take k (drop i xs)
unfolding read_from onto
read_list xs zero i = refl
read_list [] (suc k) i = sym (ap (take (suc k)) (drop-nil i))
read_list (x ∷ xs) (suc k) zero = ap (λ (l : List ℕ). x ∷ l) (read_rest x xs k 0 ∙ read_list xs k 0)
read_list (x ∷ xs) (suc k) (suc i) = read_rest x xs (suc k) i ∙ read_list xs (suc k) i

-- the values that f gives from number a on
pub read_shifted : (f : ℕ → Option ℕ) (a k i : ℕ) → read_from (λ (j : ℕ). f (a + j)) k i ≡ read_from f k (a + i)
unfolding read_from
read_shifted f a zero i = refl
read_shifted f a (suc k) i =
    ap (onto (f (a + i))) (read_shifted f a k (i + 1) ∙ ap (read_from f k) (let z : a + (i + 1) ≡ a + i + 1 = omega arith in z))

-- WRITING the lines of the values that f gives, one after the other: those of i values are there, of k at most
pub record Written (f : ℕ → Option ℕ) (q k i : ℕ) (m m1 : List ℕ) (a : ℕ) : Type 0 where
  pub values : List ℕ
  pub text : Puts m 0 (value_lines q values) m1 a
  pub rest : values ++ read_from f (k - i) i ≡ read_from f k 0

module _ (f : ℕ → Option ℕ) (q k : ℕ) {m : List ℕ} where
  pub none_written : Written f q k 0 m m 0
  none_written = record { values = []; text = no_values q m; rest = rw (sub-zero k) refl }

  module _ (i : ℕ) {m1 : List ℕ} {a : ℕ} (w : Written f q k i m m1 a) where
    next : i < k → (o : Option ℕ) → f i ≡ o → read_from f (k - i) i ≡ onto o (read_from f (k - (i + 1)) (i + 1))
    unfolding read_from
    next h o e =
        ap (λ (j : ℕ). read_from f j i) (turn_left k i h)
        ∙ ap (λ (o : Option ℕ). onto o (read_from f (k - (i + 1)) (i + 1))) e

    pub one_written : {m2 : List ℕ} {b v : ℕ} → i < k → f i ≡ some v → Puts m1 a (left_line q v) m2 b → Written f q k (i + 1) m m2 b
    unfolding onto
    one_written {m2} {b} {v} h e p =
        record {
          values = w.values ++ (v ∷ []);
          text = rw (lines_behind q w.values (v ∷ []), one_value q v) (puts_then w.text p);
          rest =
              append_snoc w.values v (read_from f (k - (i + 1)) (i + 1))
              ∙ ap (λ (us : List ℕ). w.values ++ us) (sym (next h (some v) e))
              ∙ w.rest;
        }

    -- nothing more is written
    all_written : read_from f (k - i) i ≡ [] → length m1 ≡ length m → a ≤ length m → Block m1 a (value_lines q (read_from f k 0))
    all_written e l h =
        block l h
        (subst (λ (us : List ℕ). Puts m 0 (value_lines q us) m1 a)
        (sym (append-nil w.values) ∙ ap (λ (us : List ℕ). w.values ++ us) (sym e) ∙ w.rest) w.text)

    pub written_ends : i < k → f i ≡ none → length m1 ≡ length m → a ≤ length m → Block m1 a (value_lines q (read_from f k 0))
    unfolding onto
    written_ends h e = all_written (next h none e)

    pub written_full : k ≤ i → length m1 ≡ length m → a ≤ length m → Block m1 a (value_lines q (read_from f k 0))
    unfolding read_from
    written_full h = all_written (ap (λ (j : ℕ). read_from f j i) (turns_over k i h))
