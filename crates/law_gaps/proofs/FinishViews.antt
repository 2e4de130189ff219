-- WHAT A FINISH DOES TO THE VIEWS ALONG THE LINE. Task t, which has no child, leaves the line, and what its views had goes to
-- place k. The gap that its right view begins becomes part of the gap before.
use Rattle.std.specs.Prelude.{◌≡◌, List, [], ◌∷◌, ◌++◌, ℕ}
use Rattle.std.proofs.Common.{sym, ◌∙◌, subst, append_assoc}
use Rattle.spec_lists.specs.Maps.{agree_refl, last_of, all_front}
use Rattle.law_gaps.specs.Line.{End, nonlocal, local, Extent, vacant, extent, exited, entered, Line, exits, entries, Mode, settled, Inside, rest, close, Begins, bare}
use Rattle.law_gaps.specs.Line.{Views, exiting, entering}
use Rattle.law_gaps.specs.Store.{Once}
use Rattle.law_gaps.specs.Lines.{exits_append, entries_append, once_behind}
use Rattle.law_gaps.proofs.Frames.{replace, replace_only}
use Rattle.law_gaps.specs.Moves.{Place, reduced, children_with, rights_with}
use Rattle.law_gaps.specs.Places.{Target, Latest, grow, once_grow, latest_grow, In, target_in, latest_in, children_outside, rights_outside}
use Rattle.law_gaps.proofs.Reductions.{fuse, reach, stretch, deposit, settle}

module _ (children user right : ℕ → Extent) (b : Line) (t : ℕ) (a : Line) where
  abbrev Before : List ℕ → Line
  Before c = b ++ (entered t c ∷ (exited t ∷ a))

  -- the views when extent h x is put at place k, along the line l
  abbrev With : End → End → Place → Line → Mode → Type 0
  With h x k l n = Views (children_with (extent h x) k children) user (rights_with (extent h x) k right) l n

  -- what t's three views do: v, the children view reduced with the user view, is inside the gap before; w, the right view,
  -- begins the next
  parts : {c : List ℕ} {n : Mode} (v w : Extent) → reduced (children t) (user t) ≡ v → right t ≡ w
      → Views children user right (entered t c ∷ (exited t ∷ a)) n → (m : Mode) × Inside m v settled × Begins c w n × Views children user right a m
  parts {c} {n} v w p q (entering v₁ w₁ e i f g (exiting {m = m} v₂ e' i' r)) =
      let z : reduced v₂ v₁ ≡ v = (rw (e, e') at p) in
      (m, subst (λ u. Inside m u settled) z (fuse i' i), subst (λ u. Begins c u n) (sym f ∙ q) g, r)

  once_earlier : (c : List ℕ) → Once (Before c) → Once a
  once_earlier c once = once_behind (entered t c ∷ (exited t ∷ [])) a (once_behind b (entered t c ∷ (exited t ∷ a)) once)

  -- what is later than t is not written
  later : (c : List ℕ) (h x : End) (k : Place) {l : Line} {n : Mode} → Once (Before c) → In k a
      → ((m : Mode) → Views children user right (entered t c ∷ (exited t ∷ a)) m → With h x k l m)
      → Views children user right (Before c) n → With h x k (b ++ l) n
  later c h x k {l} once i f r =
      replace b (entered t c) (exited t ∷ a) l
      (all_front _ (exits b) (exits T) (rw (exits_append b T) at (children_outside h x children (b ++ T) a once' k i)))
      (agree_refl user (entries b))
      (all_front _ (entries b) (entries T) (rw (entries_append b T) at (rights_outside h x right (b ++ T) a once' k i)))
      f r
    where
      T : Line
      T = entered t c ∷ (exited t ∷ [])

      once' : Once ((b ++ (entered t c ∷ (exited t ∷ []))) ++ a)
      once' = rw append_assoc once

  -- All three views are vacant.
  pub finish_none : (c : List ℕ) {n : Mode} → reduced (children t) (user t) ≡ vacant → right t ≡ vacant
      → Views children user right (Before c) n → Views children user right (b ++ a) n
  finish_none c p q r = replace_only b (entered t c) (exited t ∷ a) a (λ m r. let u = parts vacant vacant p q r in none u.1 u.2 u.3) r
    where
      none : {c : List ℕ} {m n : Mode} → Inside m vacant settled → Begins c vacant n → Views children user right a m → Views children user right a n
      none rest bare r = r

  -- The right view alone is vacant: the rest joins the view just before.
  pub finish_nonlocal : (c : List ℕ) (z : ℕ) (k : Place) {n : Mode} → Once (Before c) → Latest a k
      → reduced (children t) (user t) ≡ extent nonlocal (local z) → right t ≡ vacant
      → Views children user right (Before c) n → With nonlocal (local z) k (b ++ a) n
  finish_nonlocal c z k once o p q r =
      later c nonlocal (local z) k once (latest_in k o) (λ m r. let u = parts (extent nonlocal (local z)) vacant p q r in joins u.1 u.2 u.3) r
    where
      joins : {c : List ℕ} {m n : Mode} → Inside m (extent nonlocal (local z)) settled → Begins c vacant n → Views children user right a m
          → With nonlocal (local z) k a n
      joins close bare r = settle k (once_earlier c once) close o r

  -- The right view has the chain s ∷ c, which becomes q ∷ d where it joins the chain of the first gap.
  module _ (s : ℕ) (c : List ℕ) (q : ℕ) (d : List ℕ) (e : last_of q d ≡ last_of s c) where
    -- the right view is all that t leaves
    pub finish_local : (x : End) (k : Place) {n : Mode} → Once (Before (s ∷ c)) → Target children a k
        → reduced (children t) (user t) ≡ vacant → right t ≡ extent (local s) x
        → Views children user right (Before (s ∷ c)) n → With (local s) x k (b ++ grow a (s ∷ c) (q ∷ d)) n
    finish_local x k once o p f r =
        later (s ∷ c) (local s) x k once (target_in k o) (λ m r. let u = parts vacant (extent (local s) x) p f r in joins u.1 u.2 u.3) r
      where
        joins : {m n : Mode} → Inside m vacant settled → Begins (s ∷ c) (extent (local s) x) n → Views children user right a m
            → With (local s) x k (grow a (s ∷ c) (q ∷ d)) n
        joins rest g r = deposit children user right s c q d e x k (once_earlier (s ∷ c) once) g o r

    -- t leaves a view whose tail z was linked to s
    pub finish_both : (z : ℕ) (x : End) (k : Place) {n : Mode} → Once (Before (s ∷ c)) → Latest a k
        → reduced (children t) (user t) ≡ extent nonlocal (local z) → right t ≡ extent (local s) x
        → Views children user right (Before (s ∷ c)) n → With nonlocal x k (b ++ grow a (s ∷ c) (q ∷ d)) n
    finish_both z x k once o p f r =
        later (s ∷ c) nonlocal x k once (latest_in k o)
        (λ m r. let u = parts (extent nonlocal (local z)) (extent (local s) x) p f r in joins u.1 u.2 u.3) r
      where
        joins : {m n : Mode} → Inside m (extent nonlocal (local z)) settled → Begins (s ∷ c) (extent (local s) x) n → Views children user right a m
            → With nonlocal x k (grow a (s ∷ c) (q ∷ d)) n
        joins close g r =
            settle k (once_grow a (s ∷ c) (q ∷ d) (once_earlier (s ∷ c) once)) (reach g) (latest_grow (s ∷ c) (q ∷ d) o) (stretch s c q d e r)
