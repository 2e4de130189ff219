-- The spot of a course's own task has the number and the rights that the task was made with.
use Rattle.std.specs.Prelude.{◌≡◌, ◌∷◌, ℕ, ◌+◌}
use Rattle.std.proofs.Common.{ap, subst, inl, inr, ⊎_elim}
use Rattle.spec_order.specs.Steps.{Name, Task, Item, step, spot, name_of, number_of, rights_of}
use Rattle.law_order.specs.Names.{Under, under_self, not_under_child}
use Rattle.law_order.specs.Items.{In, in_parts, whose}
use Rattle.law_order.specs.Courses.{Course, stands, ended, goes, forks, items}
use Rattle.law_order.specs.Kin.{own}

-- number and rights of an item that is a spot
unfoldable number_in : Item → ℕ
number_in (step p a) = 0
number_in (spot s) = number_of s

unfoldable rights_in : Item → ℕ
rights_in (step p a) = 0
rights_in (spot s) = rights_of s

-- a step is no spot
unfoldable Stood : Item → Type 0
Stood (step p a) = ⊥
Stood (spot s) = Unit

pub as_made : (p : Name) (t r k : ℕ) (w : Course) (s : Task) → In (spot s) (items p t r k w) → name_of s ≡ p → (number_of s ≡ t) × (rights_of s ≡ r)
unfolding items number_in rights_in number_of rights_of Stood whose
as_made p t r k stands s (inl e) n = (ap number_in e, ap rights_in e)
as_made p t r k stands s (inr h) n = absurd h
as_made p t r k ended s (inl e) n = absurd (subst Stood e tt)
as_made p t r k ended s (inr h) n = absurd h
as_made p t r k (goes a d w) s (inl e) n = absurd (subst Stood e tt)
as_made p t r k (goes a d w) s (inr h) n = as_made p t r k w s h n
as_made p t r k (forks c u v w) s (inl e) n = absurd (subst Stood e tt)
as_made p t r k (forks c u v w) s (inr h) n =
    ⊎_elim
    (λ i. absurd (not_under_child (under_self p) (subst (Under (k ∷ p)) n (own (k ∷ p) c u 0 v (spot s) i))))
    (λ i. as_made p t r (k + 1) w s i n)
    (in_parts (spot s) (items (k ∷ p) c u 0 v) (items p t r (k + 1) w) h)
