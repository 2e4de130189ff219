-- "7 is now given by "left" alone" (document 02, No. 4), and "empty" by take alone, on any words.
use Rattle.std.specs.Prelude.{◌≡◌, Bool, leb, ltb}
use Rattle.std.proofs.Common.{ap, arith}
use Rattle.std.proofs.Math.Bool.{true, false}
use mathlib.Core.List.{List, [], ◌∷◌}
use Prim.Native.Nat.{ℕ, zero, suc, ◌-◌}
use denote.Enum.Declared.{tag_of}
use Rattle.spec_answers.specs.contracts.Answer.{the_type}
use Rattle.spec_words.specs.Words.{pick}
use Rattle.spec_layout.specs.Layout.{NL, count, next, queue_head, read}
use Rattle.spec_answers.specs.declared.Answer.{Answer}
use Rattle.spec_answers.specs.declared.Answer.TheVariants.{Moved, Empty, Waits, Refused}
use Rattle.spec_answers.specs.declared.Finding.{Finding}
use Rattle.spec_answers.specs.declared.Finding.TheVariants as Finding
use Rattle.spec_answers.specs.Answers.{Outcome, outcome, answer_of, status_of, when_moved}
use Rattle.spec_answers.specs.Calls.{Call, open_call, spawn_call, push_call, take_call, sync_call, finish_call, left_call}
use Rattle.spec_outcomes.specs.Segments.{value_at}
use Rattle.spec_outcomes.specs.Waits.{tested}
use Rattle.spec_outcomes.specs.Open.{open_outcome}
use Rattle.spec_outcomes.specs.Spawn.{spawned, spawn_tested, spawn_outcome}
use Rattle.spec_outcomes.specs.Push.{pushed_apart, pushed_behind, pushed, pushed_all, pushed_run, push_tested, push_outcome}
use Rattle.spec_outcomes.specs.Take.{take_gives, pop_allowed, take_tested, take_outcome}
use Rattle.spec_outcomes.specs.Sync.{when_reduced, sync_tested, sync_outcome}
use Rattle.spec_outcomes.specs.Finish.{finish_tested, finish_outcome}
use Rattle.spec_outcomes.specs.Left.{queued, left_tested, left_outcome}
use Rattle.spec_outcomes.specs.Outcomes.{outcome_of}

abbrev pub IsTake : Call → Type 0
IsTake (open_call l n) = ⊥
IsTake (spawn_call t r) = ⊥
IsTake (push_call t q vs) = ⊥
IsTake (take_call t q keep) = Unit {0}
IsTake (sync_call t) = ⊥
IsTake (finish_call t) = ⊥
IsTake (left_call q i) = ⊥

abbrev pub IsLeft : Call → Type 0
IsLeft (open_call l n) = ⊥
IsLeft (spawn_call t r) = ⊥
IsLeft (push_call t q vs) = ⊥
IsLeft (take_call t q keep) = ⊥
IsLeft (sync_call t) = ⊥
IsLeft (finish_call t) = ⊥
IsLeft (left_call q i) = Unit {0}

picked : (P : Answer → Type 0) (b : Bool) (x y : Answer) → P x → P y → P (pick b x y)
unfolding pick
picked P true x y p q = p
picked P false x y p q = q

-- what holds of the answers that any call may give
module _ (P : Answer → Type 0) (moved : (v : ℕ) → P (Moved v)) (waits : P Waits) (refused : (k : ℕ) → (k ≡ 7 → ⊥) → P (Refused k)) where
  abbrev pub Of : Outcome → Type 0
  Of (outcome a n) = P a

  either : (b : Bool) (x y : Outcome) → Of x → Of y → Of (pick b x y)
  unfolding pick
  either true x y p q = p
  either false x y p q = q

  -- a rung of a ladder of refusals
  rung : (k : ℕ) → (k ≡ 7 → ⊥) → (b : Bool) (m : List ℕ) (o : Outcome) → Of o → Of (pick b (outcome (Refused k) m) o)
  rung k n b m o p = either b _ o (refused k n) p

  behind_tests : (m : List ℕ) (o : Outcome) → Of o → Of (tested m o)
  unfolding tested
  behind_tests m o p = rung 1 (λ e. omega (arith, e)) _ m _ (rung 2 (λ e. omega (arith, e)) _ m _ p)

  single : (m : List ℕ) (t q v : ℕ) → Of (pushed m t q v)
  unfolding pushed pushed_apart pushed_behind
  single m t q v =
      either _ _ _ (rung 9 (λ e. omega (arith, e)) _ m _ (rung 2 (λ e. omega (arith, e)) _ m _ (moved v)))
      (rung 2 (λ e. omega (arith, e)) _ m _ (either _ _ _ (moved v) (rung 9 (λ e. omega (arith, e)) _ m _ (moved v))))

  all : (m n : List ℕ) (t q w : ℕ) (vs : List ℕ) → Of (pushed_all m n t q w vs)
  unfolding pushed_all
  all m n t q w [] = moved w
  all m n t q w (v ∷ vs) = first (pushed n t q v) (single n t q v) (λ x l. all m l t q x vs)
    where
      first : (o : Outcome) → Of o → ((x : ℕ) (l : List ℕ) → Of (pushed_all m l t q x vs)) → Of (when_moved m o (λ x l. pushed_all m l t q x vs))
      first (outcome (Moved x) l) p f = unfold when_moved in f x l
      first (outcome Empty l) p f = unfold when_moved in p
      first (outcome Waits l) p f = unfold when_moved in p
      first (outcome (Refused k) l) p f = unfold when_moved in p

  found : (m : List ℕ) (t q : ℕ) (keep : Bool) (f : Finding) → P Empty → Of (take_gives m t q keep f)
  unfolding take_gives
  found m t q keep (Finding.Value v) p = moved v
  found m t q keep Finding.Empty p = p
  found m t q keep Finding.Waits p = waits

  reduced : (m : List ℕ) (t : ℕ) (b : Bool) (o : Outcome) → Of o → Of (when_reduced m t b o)
  unfolding when_reduced
  reduced m t b o p = rung 4 (λ e. omega (arith, e)) _ m _ (either _ _ _ waits (rung 2 (λ e. omega (arith, e)) _ m _ p))

  left_over : (k : ℕ) (m : List ℕ) (s i : ℕ) → P (Refused 7) → P (queued k m s i)
  unfolding queued
  left_over zero m s i p = p
  left_over (suc k) m s i p =
      picked P (leb NL s) (Refused 7) _ p
      (picked P (ltb i (read m (count s))) (Moved (value_at m s i)) _ (moved (value_at m s i)) (left_over k m (read m (next s)) (i - read m (count s)) p))

  -- THE CALLS OF A TASK, behind the tests of length and memory
  pub spawns : (m : List ℕ) (t r : ℕ) → Of (spawn_tested m t r)
  unfolding spawn_tested spawned
  spawns m t r =
      rung 4 (λ e. omega (arith, e)) _ m _ (rung 6 (λ e. omega (arith, e)) _ m _ (either _ _ _ waits (rung 8 (λ e. omega (arith, e)) _ m _ (moved _))))

  pub pushes : (m : List ℕ) (t q : ℕ) (vs : List ℕ) → Of (push_tested m t q vs)
  unfolding push_tested pushed_run
  pushes m t q vs =
      rung 4 (λ e. omega (arith, e)) _ m _ (rung 5 (λ e. omega (arith, e)) _ m _ (rung 6 (λ e. omega (arith, e)) _ m _
      (either _ _ _ waits (rung 9 (λ e. omega (arith, e)) _ m _ (all m m t q 0 vs)))))

  pub takes : (m : List ℕ) (t q : ℕ) (keep : Bool) → P Empty → Of (take_tested m t q keep)
  unfolding take_tested pop_allowed
  takes m t q keep p =
      rung 4 (λ e. omega (arith, e)) _ m _ (rung 5 (λ e. omega (arith, e)) _ m _ (rung 6 (λ e. omega (arith, e)) _ m _ (found m t q keep _ p)))

  pub syncs : (m : List ℕ) (t : ℕ) → Of (sync_tested m t)
  unfolding sync_tested
  syncs m t = reduced m t _ _ (moved 0)

  pub finishes : (m : List ℕ) (t : ℕ) → Of (finish_tested m t)
  unfolding finish_tested
  finishes m t = either _ _ _ (reduced m t _ _ (moved 0)) (reduced m t _ _ (moved 0))

  -- THE ANSWERS: "empty" is asked about for a take only, and 7 for left only.
  whole : (c : Call) (m : List ℕ) → (IsTake c → P Empty) → (IsLeft c → P (Refused 7)) → Of (outcome_of c m)
  unfolding outcome_of open_outcome spawn_outcome push_outcome take_outcome sync_outcome finish_outcome left_outcome left_tested
  whole (open_call l n) m empty seven = rung 1 (λ e. omega (arith, e)) _ m _ (rung 3 (λ e. omega (arith, e)) _ m _ (moved 0))
  whole (spawn_call t r) m empty seven = behind_tests m _ (spawns m t r)
  whole (push_call t q vs) m empty seven = behind_tests m _ (pushes m t q vs)
  whole (take_call t q keep) m empty seven = behind_tests m _ (takes m t q keep (empty tt))
  whole (sync_call t) m empty seven = behind_tests m _ (syncs m t)
  whole (finish_call t) m empty seven = behind_tests m _ (finishes m t)
  whole (left_call q i) m empty seven =
      behind_tests m _ (rung 5 (λ e. omega (arith, e)) _ m _ (either _ _ _ waits (left_over 256 m (read m (queue_head 0 q)) i (seven tt))))

  answers : (c : Call) (m : List ℕ) → (IsTake c → P Empty) → (IsLeft c → P (Refused 7)) → P (answer_of (outcome_of c m))
  answers c m empty seven = as_answer (outcome_of c m) (whole c m empty seven)
    where
      as_answer : (o : Outcome) → Of o → P (answer_of o)
      as_answer (outcome a n) p = unfold answer_of in p

-- an answer with another status
other : (a b : Answer) (C : Type 0) → (status_of a ≡ status_of b → ⊥) → a ≡ b → C
other a b C n e = absurd (n (ap status_of e))

pub seven_by_left : (c : Call) (m : List ℕ) → answer_of (outcome_of c m) ≡ Refused 7 → IsLeft c
unfolding status_of
seven_by_left c m =
    answers (λ a. a ≡ Refused 7 → IsLeft c) (λ v. other (Moved v) (Refused 7) _ (λ e. omega (arith, e))) (other Waits (Refused 7) _ (λ e. omega (arith, e)))
    (λ k n. other (Refused k) (Refused 7) _ n) c m (λ i. other Empty (Refused 7) _ (λ e. omega (arith, e))) (λ i e. i)

-- a refusal is no answer "empty", whatever its number
refused_other : (k : ℕ) (C : Type 0) → Refused k ≡ Empty → C
refused_other k C e = let z = ap (tag_of the_type) e in let n : ⊥ = omega (arith, z) in absurd n

pub empty_by_take : (c : Call) (m : List ℕ) → answer_of (outcome_of c m) ≡ Empty → IsTake c
unfolding status_of
empty_by_take c m =
    answers (λ a. a ≡ Empty → IsTake c) (λ v. other (Moved v) Empty _ (λ e. omega (arith, e))) (other Waits Empty _ (λ e. omega (arith, e)))
    (λ k n. refused_other k _) c m (λ i e. i) (λ i. other (Refused 7) Empty _ (λ e. omega (arith, e)))
