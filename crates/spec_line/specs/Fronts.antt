-- IN FRONT OF THE LINE stand, for each queue, the values put back and not taken again, the last put back first. They come before
-- all that the line has of the queue. No operation puts a value back yet (request 12), so nothing stands in front so far.
use Rattle.std.specs.Prelude.{◌≡◌, Bool, true, List, ◌∷◌, ℕ, drop, eqb}
use Rattle.std.proofs.Math.Path.{refl, fun_ext}
use Rattle.std.proofs.Common.{sym, ap, ◌∙◌, eqb-true}
use Rattle.std.proofs.Math.Bool.{false}
use Rattle.spec_words.specs.Words.{pick}
use Rattle.spec_lists.specs.Maps.{put, put_other}
use Rattle.spec_line.specs.Line.{Search, free, seeking, found, putting, About, Apart}

abbrev pub Fronts : Type 0
Fronts = ℕ → List ℕ

-- what stands in front after a search that begins as the given one
abbrev pub fronts_after : Search → Fronts → Fronts
fronts_after free r = r
fronts_after (seeking b q) r = r
fronts_after (found true q v) r = r
fronts_after (found false q v) r = put r q (drop 1 (r q))
fronts_after (putting q v) r = put r q (v ∷ r q)

-- a search leaves what stands in front of the other queues
pub fronts_other : (m : Search) (r : Fronts) (p : ℕ) → (About p m → ⊥) → fronts_after m r p ≡ r p
fronts_other free r p n = refl
fronts_other (seeking b q) r p n = refl
fronts_other (found true q v) r p n = refl
fronts_other (found false q v) r p n = put_other r q (drop 1 (r q)) p n
fronts_other (putting q v) r p n = put_other r q (v ∷ r q) p n

-- two writes at two places
swap : (r : Fronts) (q p : ℕ) (x y : List ℕ) → (q ≡ p → ⊥) → put (put r q x) p y ≡ put (put r p y) q x
unfolding put
swap r q p x y n = fun_ext λ i. go i (eqb i p) (eqb i q) refl refl
  where
    go : (i : ℕ) (b c : Bool) → eqb i p ≡ b → eqb i q ≡ c → pick b y (pick c x (r i)) ≡ pick c x (pick b y (r i))
    go i true true d e = absurd (n (sym (eqb-true i q e) ∙ eqb-true i p d))
    go i true false d e = unfold pick in refl
    go i false c d e = unfold pick in refl

two : (r : Fronts) (q p : ℕ) (f g : List ℕ → List ℕ) → (q ≡ p → ⊥)
    → put (put r q (f (r q))) p (g (put r q (f (r q)) p)) ≡ put (put r p (g (r p))) q (f (put r p (g (r p)) q))
two r q p f g n =
    ap (λ (l : List ℕ). put (put r q (f (r q))) p (g l)) (put_other r q (f (r q)) p (λ e. n (sym e)))
    ∙ swap r q p (f (r q)) (g (r p)) n
    ∙ ap (λ (l : List ℕ). put (put r p (g (r p))) q (f l)) (sym (put_other r p (g (r p)) q n))

one : (n : Search) (r : Fronts) (q : ℕ) (f : List ℕ → List ℕ) → (About q n → ⊥)
    → fronts_after n (put r q (f (r q))) ≡ put (fronts_after n r) q (f (fronts_after n r q))
one free r q f a = refl
one (seeking c p) r q f a = refl
one (found true p w) r q f a = refl
one (found false p w) r q f a = two r q p f (drop 1) a
one (putting p w) r q f a = two r q p f (λ l. w ∷ l) a

-- WHAT STANDS IN FRONT after two searches about different queues does not hang on their order.
pub fronts_swap : (m n : Search) (r : Fronts) → Apart m n → fronts_after n (fronts_after m r) ≡ fronts_after m (fronts_after n r)
fronts_swap free n r a = refl
fronts_swap (seeking b q) n r a = refl
fronts_swap (found true q v) n r a = refl
fronts_swap (found false q v) n r a = one n r q (drop 1) (a q refl)
fronts_swap (putting q v) n r a = one n r q (λ l. v ∷ l) (a q refl)
