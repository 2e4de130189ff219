-- A TASK STANDS ON THE LINE STILL after a step of another task.
use Rattle.std.specs.Prelude.{◌≡◌, refl, ◌⊎◌}
use Rattle.std.proofs.Math.Path.{ap}
use Rattle.std.proofs.Common.{sym, ◌∙◌, subst, ⊎_elim}
use mathlib.Core.List.Memᴰ
use mathlib.Core.List.{List, [], ◌∷◌, ◌++◌, Memᴰ}
use Rattle.spec_line.specs.Line.{Item, value, spot, finished, gave}
use Rattle.law_job_order.specs.Beside.{Numbered, standing}
use Rattle.law_job_order.specs.Points.{standing_append}

pub record At (n : Numbered) (l : List (Item Numbered)) : Type 0 where
  pub before : List (Item Numbered)
  pub behind : List (Item Numbered)
  pub here : l ≡ before ++ spot n ∷ behind

at_past : {n : Numbered} {l : List (Item Numbered)} (x : Item Numbered) → At n l → At n (x ∷ l)
at_past x w = record { before = x ∷ w.before; behind = w.behind; here = ap (λ (k : List (Item Numbered)). x ∷ k) w.here }

one_of : (n : Numbered) (l : List (Item Numbered)) → Memᴰ n (standing l) → At n l
unfolding standing
one_of n [] m = absurd (Memᴰ.not-nil m)
one_of n (value q v ∷ l) m = at_past (value q v) (one_of n l m)
one_of n (finished o ∷ l) m = at_past (finished o) (one_of n l m)
one_of n (gave q ∷ l) m = at_past (gave q) (one_of n l m)
one_of n (spot o ∷ l) m = first (one_of n l)
  where
    first : (Memᴰ n (standing l) → At n l) → At n (spot o ∷ l)
    first rest =
        ⊎_elim
        (λ e. record { before = []; behind = l; here = ap (λ (i : Numbered). spot i ∷ l) (sym e) })
        (λ i. at_past (spot o) (rest i))
        (Memᴰ.cases_cons m)

-- n and o stand on one line; then the tasks ns stand in the place of o, on the line l
pub still_stands : (a b c d : List (Item Numbered)) (n o : Numbered) → a ++ spot n ∷ b ≡ c ++ spot o ∷ d → ¬ (n ≡ o)
    → (l : List (Item Numbered)) (ns : List Numbered) → standing l ≡ standing c ++ (ns ++ standing d) → At n l
unfolding standing
still_stands a b c d n o also other l ns is = one_of n l (subst (Memᴰ n) (sym is) (⊎_elim left right parts))
  where
    parts : Memᴰ n (standing c) ⊎ Memᴰ n (o ∷ standing d)
    parts =
        unfold standing in
        Memᴰ.append_cases (standing c)
        (subst (Memᴰ n) (sym (standing_append a (spot n ∷ b)) ∙ ap standing also ∙ standing_append c (spot o ∷ d))
        (Memᴰ.append_right (standing a) (Memᴰ.head refl)))

    left : Memᴰ n (standing c) → Memᴰ n (standing c ++ (ns ++ standing d))
    left m = Memᴰ.append_left (ns ++ standing d) m

    right : Memᴰ n (o ∷ standing d) → Memᴰ n (standing c ++ (ns ++ standing d))
    right m = Memᴰ.append_right (standing c) (Memᴰ.append_right ns (⊎_elim (λ e. absurd (other e)) (λ i. i) (Memᴰ.cases_cons m)))
