-- The stack on an accepted job: every task is at an instruction that exists, each is the youngest child of the one under
-- it and has no right that one lacks, and the last is the top.
use Rattle.std.specs.Prelude.{◌≡◌, true, ℕ, ◌+◌, ◌<◌}
use Rattle.std.proofs.Math.Path.{ap}
use Rattle.std.proofs.Common.{◌∙◌}
use mathlib.Core.List.{List, [], ◌∷◌}
use Rattle.spec_tree.specs.Rights.{subset}
use Rattle.spec_job.specs.Fields.{procedures, count, rights}
use Rattle.spec_plain.specs.Machine.{Task}

-- the rights of a task are those of its procedure
unfoldable pub rights_of : List ℕ → Task → ℕ
rights_of j t = rights j t.procedure

-- t is at an instruction that exists
pub record Stands (j : List ℕ) (t : Task) : Type 0 where
  pub procedure : t.procedure < procedures j
  pub position : t.position < count j t.procedure

-- c is the youngest child that t has made, with rights within those of t
pub record ChildOf (j : List ℕ) (c t : Task) : Type 0 where
  pub number : ℕ
  pub youngest : t.children ≡ number + 1
  pub name : c.name ≡ number ∷ t.name
  pub within : subset (rights_of j c) (rights_of j t) ≡ true

abbrev pub Stack : List ℕ → List Task → Type 0
Stack j [] = Unit {0}
Stack j (t ∷ []) = Stands j t × (t.name ≡ []) × (t.procedure ≡ 0)
Stack j (c ∷ t ∷ ts) = Stands j c × ChildOf j c t × Stack j (t ∷ ts)

module _ (j : List ℕ) where
  pub first_stands : (t : Task) (ts : List Task) → Stack j (t ∷ ts) → Stands j t
  first_stands t [] h = h.0
  first_stands t (u ∷ ts) h = h.0

  pub rest_stands : (t : Task) (ts : List Task) → Stack j (t ∷ ts) → Stack j ts
  rest_stands t [] h = tt
  rest_stands t (u ∷ ts) h = h.2

  -- another state of the first task
  pub again : (s t : Task) (ts : List Task) → s.name ≡ t.name → s.procedure ≡ t.procedure → Stands j s → Stack j (t ∷ ts) → Stack j (s ∷ ts)
  unfolding rights_of
  again s t [] n p g h = (g, n ∙ h.1, p ∙ h.2)
  again s t (u ∷ ts) n p g h =
      let c = h.1 in (
        g,
        record {
          number = c.number;
          youngest = c.youngest;
          name = n ∙ c.name;
          within = ap (λ (k : ℕ). subset (rights j k) (rights j u.procedure)) p
              ∙ c.within;
        },
        h.2,
      )
