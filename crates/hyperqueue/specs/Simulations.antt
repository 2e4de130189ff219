-- What a simulation hands to a host: the packed answer, the ticks used, the work and the span, and the words that were lent.
use Rattle.std.specs.Prelude.{◌≡◌, refl, List, [], ◌∷◌, ℕ, ◌+◌, ◌*◌}
use Rattle.std.proofs.Common.{ap, ap₂, ◌∙◌, subst, arith}
use Rattle.spec_simulate.specs.declared.Simulated.{Simulated}
use Rattle.spec_simulate.specs.declared.Simulated.TheVariants.{Ended, Spent, Stopped, Refused}
use Rattle.spec_span.specs.Listing.{Listing, listing}

-- a number that no refusal has
abbrev pub SPENT : ℕ
SPENT = 35

abbrev pub status_of : Simulated → ℕ
status_of (Ended c k) = 0
status_of Spent = SPENT
status_of (Stopped k) = k
status_of (Refused k) = k

abbrev pub ticks_used : Simulated → ℕ
ticks_used (Ended c k) = c
ticks_used Spent = 0
ticks_used (Stopped k) = 0
ticks_used (Refused k) = 0

abbrev pub work_done : Simulated → ℕ
work_done (Ended c k) = k
work_done Spent = 0
work_done (Stopped k) = 0
work_done (Refused k) = 0

-- A host is handed the number p, the ticks, the work and the span in o, and the words m, r and e, those for the ends.
abbrev pub SimulationHanded : ℕ → List ℕ → List ℕ → List ℕ → List ℕ → Listing → Type 0
SimulationHanded p o m r e (listing a s m' r' e') =
    (p ≡ status_of a * 4294967296) × (o ≡ ticks_used a ∷ work_done a ∷ s ∷ []) × (m ≡ m') × (r ≡ r') × (e ≡ e')

pub simulation_handed : {a : Simulated} {p k t w s : ℕ} {o m r e : List ℕ} {x : Listing} → listing a s m r e ≡ x → k ≡ status_of a → t ≡ ticks_used a
    → w ≡ work_done a → p ≡ k * 4294967296 + 0 → o ≡ t ∷ w ∷ s ∷ [] → SimulationHanded p o m r e x
simulation_handed {a = a} {p = p} {s = s} {o = o} {m = m} {r = r} {e = e} is status ticks work packed written =
    subst (SimulationHanded p o m r e) is (
      let q = ap (λ (i : ℕ). i * 4294967296) status in omega (arith, packed, q),
      written ∙ ap₂ (λ (i l : ℕ). i ∷ l ∷ s ∷ []) ticks work,
      refl,
      refl,
      refl,
    )
