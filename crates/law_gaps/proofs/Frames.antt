-- FRAMES: what is later and what is earlier than a stretch of the line is carried where the maps agree.
use Rattle.std.specs.Prelude.{◌≡◌, refl, ℕ}
use Rattle.std.proofs.Common.{ap, ◌∙◌, arith}
use mathlib.Core.List.{List, [], ◌∷◌, ◌++◌, cons-ne-nil, append-ne-nil_of_right_ne-nil}
use Rattle.spec_lists.specs.Maps.{put, off, Agree, agree_refl, agree_put}
use Rattle.law_gaps.specs.Line.{Extent, vacant, extent, End, Mark, base, exited, entered, pass, Line, exits, entries, Mode, Views, queue, exiting, entering, passing}
use Rattle.law_gaps.specs.Lines.{New, NoBase}

-- a view is not both vacant and an extent
pub clash : {h x : End} {A : Type 0} (v : Extent) → v ≡ vacant → v ≡ extent h x → A
clash v p q = let z : ◌≡◌ {A = ℕ} 0 1 = cc in absurd (omega (arith, z))

module _ {children user right : ℕ → Extent} where
  -- the queue view is at the bottom
  pub bottom : {c : List ℕ} {l : Line} {m : Mode} → Views children user right (base c ∷ l) m → l ≡ []
  bottom (queue e) = refl

  pub bottomed : {l : Line} {m : Mode} → Views children user right l m → (b : Line) × (s : ℕ) × (c : List ℕ) × (l ≡ b ++ (base (s ∷ c) ∷ []))
  bottomed (queue {s = s} {c = c} e) = ([], s, c, refl)
  bottomed (exiting {t = t} v e i r) = let h = bottomed r in (exited t ∷ h.0, h.1, h.2, ap (λ (l : Line). exited t ∷ l) h.3)
  bottomed (entering {t = t} {c = c} v w e i f g r) = let h = bottomed r in (entered t c ∷ h.0, h.1, h.2, ap (λ (l : Line). entered t c ∷ l) h.3)
  bottomed (passing {x = x} r) = let h = bottomed r in (pass x ∷ h.0, h.1, h.2, ap (λ (l : Line). pass x ∷ l) h.3)

  -- the earlier part of a line, and that no queue view stands in the later part
  pub split : (b : Line) (x : Mark) (l : Line) {n : Mode} → Views children user right (b ++ (x ∷ l)) n
      → (m : Mode) × Views children user right (x ∷ l) m
  split [] x l {n} r = (n, r)
  split (base c ∷ b) x l r = absurd (append-ne-nil_of_right_ne-nil b (cons-ne-nil x l) (bottom r))
  split (exited t ∷ b) x l (exiting v e i r) = split b x l r
  split (entered t c ∷ b) x l (entering v w e i f g r) = split b x l r
  split (pass y ∷ b) x l (passing r) = split b x l r

  pub no_base : (b : Line) (x : Mark) (l : Line) {n : Mode} → Views children user right (b ++ (x ∷ l)) n → NoBase b
  no_base [] x l r = tt
  no_base (base c ∷ b) x l r = absurd (append-ne-nil_of_right_ne-nil b (cons-ne-nil x l) (bottom r))
  no_base (exited t ∷ b) x l (exiting v e i r) = no_base b x l r
  no_base (entered t c ∷ b) x l (entering v w e i f g r) = no_base b x l r
  no_base (pass y ∷ b) x l (passing r) = no_base b x l r

module _ {children user right children' user' right' : ℕ → Extent} where
  -- maps that agree on the tasks of a line
  pub keep : {l : Line} {m : Mode} → Agree children children' (exits l) → Agree user user' (entries l) → Agree right right' (entries l)
      → Views children user right l m → Views children' user' right' l m
  keep a b c (queue e) = queue e
  keep a b c (exiting v e i r) = exiting v (a.0 ∙ e) i (keep a.1 b c r)
  keep a b c (entering v w e i f g r) = entering v w (b.0 ∙ e) i (c.0 ∙ f) g (keep a b.1 c.1 r)
  keep a b c (passing r) = passing (keep a b c r)

  -- The stretch x ∷ l is replaced by k: it is enough that k leaves behind it what the stretch left.
  pub replace : (b : Line) (x : Mark) (l k : Line) {n : Mode}
      → Agree children children' (exits b) → Agree user user' (entries b) → Agree right right' (entries b)
      → ((m : Mode) → Views children user right (x ∷ l) m → Views children' user' right' k m)
      → Views children user right (b ++ (x ∷ l)) n → Views children' user' right' (b ++ k) n
  replace [] x l k {n} p q s f r = f n r
  replace (base c ∷ b) x l k p q s f r = absurd (append-ne-nil_of_right_ne-nil b (cons-ne-nil x l) (bottom r))
  replace (exited t ∷ b) x l k p q s f (exiting v e i r) = exiting v (p.0 ∙ e) i (replace b x l k p.1 q s f r)
  replace (entered t c ∷ b) x l k p q s f (entering v w e i g y r) =
      entering v w (q.0 ∙ e) i (s.0 ∙ g) y (replace b x l k p q.1 s.1 f r)
  replace (pass y ∷ b) x l k p q s f (passing r) = passing (replace b x l k p q s f r)

-- the same where no view is written
pub replace_only : {children user right : ℕ → Extent} (b : Line) (x : Mark) (l k : Line) {n : Mode}
    → ((m : Mode) → Views children user right (x ∷ l) m → Views children user right k m)
    → Views children user right (b ++ (x ∷ l)) n → Views children user right (b ++ k) n
replace_only {children} {user} {right} b x l k f r =
    replace b x l k (agree_refl children (exits b)) (agree_refl user (entries b)) (agree_refl right (entries b)) f r

-- The views of a task that has no mark in the line are nobody's.
pub forget : (children user right : ℕ → Extent) (t : ℕ) (x y z : Extent) (l : Line) {n : Mode} → New t l
    → Views children user right l n → Views (put children t x) (put user t y) (put right t z) l n
forget children user right t x y z l new r =
    keep (agree_put children t x (exits l) (off t (exits l) new.0)) (agree_put user t y (entries l) (off t (entries l) new.1))
    (agree_put right t z (entries l) (off t (entries l) new.1)) r
