-- THE TASKS UNDER WAY as a list: each with its number and with the ticks that its instruction has had. As slots they are counted on the
-- timed line.
use Rattle.std.specs.Prelude.{◌≡◌, List, [], ◌∷◌, eqb, length}
use Rattle.std.proofs.Math.Path.{refl, ap}
use Rattle.std.proofs.Math.Logic.{inl, inr}
use Rattle.std.proofs.Common.{⊎_elim, arith}
use Prim.Native.Nat.{ℕ, suc, ◌+◌, ◌<◌}
use Rattle.spec_lists.specs.Counting.{one, equal?, occurrences, occurs_nil, occurs_cons, occurs_past, occurs_not}
use Rattle.spec_lists.specs.Maps.{All}
use Rattle.law_timed_line.proofs.Bound.{Slot, slot, Underway, aged, total, Leaves, first, behind_it}
use Rattle.law_job_line.specs.Tasks.{Runner}
use Rattle.law_job_order.specs.Beside.{Numbered}

pub record Holder : Type 0 where
  pub who : Numbered
  pub age : ℕ

unfoldable pub slots : List Holder → List (Slot Runner)
slots [] = []
slots (o ∷ os) = slot o.who.runner o.age ∷ slots os

unfoldable pub numbers_of : List Holder → List ℕ
numbers_of [] = []
numbers_of (o ∷ os) = o.who.number ∷ numbers_of os

-- n ticks pass
abbrev pub growing : ℕ → Holder → Holder
growing n o = record { who = o.who; age = o.age + n }

unfoldable pub grown : ℕ → List Holder → List Holder
grown n [] = []
grown n (o ∷ os) = growing n o ∷ grown n os

pub grown_slots : (n : ℕ) (os : List Holder) → slots (grown n os) ≡ aged n (slots os)
unfolding slots grown
grown_slots n [] = refl
grown_slots n (o ∷ os) = ap (λ (us : List (Slot Runner)). slot o.who.runner (o.age + n) ∷ us) (grown_slots n os)

pub grown_numbers : (n : ℕ) (os : List Holder) → numbers_of (grown n os) ≡ numbers_of os
unfolding numbers_of grown
grown_numbers n [] = refl
grown_numbers n (o ∷ os) = ap (λ (ks : List ℕ). o.who.number ∷ ks) (grown_numbers n os)

pub grown_all : (P Q : Holder → Type 0) (n : ℕ) → ((o : Holder) → P o → Q (growing n o)) → (os : List Holder) → All P os → All Q (grown n os)
unfolding grown
grown_all P Q n f [] h = tt
grown_all P Q n f (o ∷ os) h = (f o h.0, grown_all P Q n f os h.1)

pub aged_length : (n : ℕ) (us : List (Slot Runner)) → length (aged n us) ≡ length us
aged_length n [] = refl
aged_length n (slot u x ∷ us) = ap suc (aged_length n us)

-- a slot is that of a holder
pub slot_of : (P : Holder → Type 0) (u : Runner) (x : ℕ) (os : List Holder) → All P os → Underway u x (slots os) → (o : Holder) × P o × (o.who.runner ≡ u)
unfolding slots
slot_of P u x [] h i = absurd i
slot_of P u x (o ∷ os) h (inl e) = (o, h.0, e.0)
slot_of P u x (o ∷ os) h (inr i) = slot_of P u x os h.1 i

-- ONE HOLDER, o, is taken out
pub data Out (o : Holder) : List Holder → List Holder → Type 0 where
  out_first : {os : List Holder} → Out o (o ∷ os) os
  out_behind : {p : Holder} {os vs : List Holder} → Out o os vs → Out o (p ∷ os) (p ∷ vs)

pub record Taken (t : ℕ) (os : List Holder) : Type 0 where
  pub holder : Holder
  pub rest : List Holder
  pub out : Out holder os rest
  pub number : holder.who.number ≡ t

-- the one with number t
pub take_out : (t : ℕ) (os : List Holder) → 0 < occurrences t (numbers_of os) → Taken t os
unfolding numbers_of
take_out t [] h = let a = occurs_nil t in let z : ⊥ = omega (arith, a, h) in absurd z
take_out t (o ∷ os) h =
    let rest = take_out t os in
    ⊎_elim (λ e. record { holder = o; rest = os; out = out_first; number = e })
    (λ n.
    let a = occurs_past o.who.number t (numbers_of os) n in
    let w = rest (omega (arith, a, h)) in
    record { holder = w.holder; rest = o ∷ w.rest; out = out_behind w.out; number = w.number })
    (equal? o.who.number t)

module _ {o : Holder} where
  pub out_all : (P : Holder → Type 0) {os vs : List Holder} → Out o os vs → All P os → P o × All P vs
  out_all P out_first h = (h.0, h.1)
  out_all P (out_behind w) h = let v = out_all P w h.1 in (v.0, (h.0, v.1))

  pub out_occurs : (t : ℕ) {os vs : List Holder} → Out o os vs
      → occurrences t (numbers_of os) ≡ one (eqb o.who.number t) + occurrences t (numbers_of vs)
  unfolding numbers_of
  out_occurs t (out_first {os = os}) = occurs_cons o.who.number t (numbers_of os)
  out_occurs t (out_behind {p = p} {os = os} {vs = vs} w) =
      let a = occurs_cons p.who.number t (numbers_of os) in
      let b = occurs_cons p.who.number t (numbers_of vs) in
      let c = out_occurs t w in
      omega (arith, a, b, c)

  pub out_length : {os vs : List Holder} → Out o os vs → length (slots os) ≡ suc (length (slots vs))
  unfolding slots
  out_length out_first = refl
  out_length (out_behind w) = ap suc (out_length w)

  pub out_total : {os vs : List Holder} → Out o os vs → total (slots os) ≡ o.age + total (slots vs)
  unfolding slots
  out_total out_first = refl
  out_total (out_behind w) = let a = out_total w in omega (arith, a)

  pub out_leaves : {os vs : List Holder} → Out o os vs → Leaves o.who.runner o.age (slots os) (slots vs)
  unfolding slots
  out_leaves out_first = first
  out_leaves (out_behind w) = behind_it (out_leaves w)

  -- so it is under way
  pub out_underway : {os vs : List Holder} → Out o os vs → Underway o.who.runner o.age (slots os)
  unfolding slots
  out_underway out_first = inl (refl, refl)
  out_underway (out_behind w) = inr (out_underway w)

-- those who are left have other numbers
pub all_other : (t : ℕ) (os : List Holder) → occurrences t (numbers_of os) ≡ 0 → All (λ o. ¬ (o.who.number ≡ t)) os
unfolding numbers_of
all_other t [] h = tt
all_other t (o ∷ os) h = let w = occurs_not o.who.number t (numbers_of os) h in (w.0, all_other t os w.1)

-- two properties of all as one
pub all_both : (P Q R : Holder → Type 0) → ((o : Holder) → P o → Q o → R o) → (os : List Holder) → All P os → All Q os → All R os
all_both P Q R f [] h k = tt
all_both P Q R f (o ∷ os) h k = (f o h.0 k.0, all_both P Q R f os h.1 k.1)
