-- What an accepted job promises: the tests of all entries and instructions, one by one.
use Rattle.std.specs.Prelude.{◌≡◌, refl, Bool, true, false, List, ℕ, zero, suc, ◌+◌, ◌*◌, ◌<◌, ◌≤◌}
use Rattle.std.proofs.Common.{⊎_elim, arith}
use borrow.Author.Tests.{leb-true, eqb-true, not-false}
use Rattle.spec_words.specs.Words.{size, pick, both_true}
use Rattle.spec_lists.specs.Counting.{equal?}
use Rattle.spec_lists.specs.Tests.{upto, upto_says}
use Rattle.spec_answers.specs.declared.Answer.{Answer}
use Rattle.spec_answers.specs.declared.Answer.TheVariants.{Moved, Refused}
use Rattle.spec_job.specs.Fields.{procedures, segment_length, entry_at, offset, count, rights}
use Rattle.spec_job.specs.Test.{between, head_holds, refusal10, entry_holds, entries_hold, contents_hold, refusal11, instruction_holds, last_holds, body_holds}
use Rattle.spec_job.specs.Test.{refusal12, job_answer}

-- a procedure's body is not empty, not too long, and within the bytes
pub record Entry (j : List ℕ) (p : ℕ) : Type 0 where
  pub some : 1 ≤ count j p
  pub few : count j p ≤ 128
  pub inside : offset j p + count j p * 6 ≤ size j

pub record Accepted (j : List ℕ) : Type 0 where
  pub some : 1 ≤ procedures j
  pub few : procedures j ≤ 64
  pub segment_some : 1 ≤ segment_length j
  pub segment_few : segment_length j ≤ 64
  pub top : rights j 0 ≡ 255
  pub entries : (p : ℕ) → p < procedures j → Entry j p
  pub instructions : (p i : ℕ) → p < procedures j → i < count j p → instruction_holds j p i ≡ true
  pub last : (p : ℕ) → p < procedures j → last_holds j p ≡ true

between_says : (a x b : ℕ) → between a x b ≡ true → (a ≤ x) × (x ≤ b)
unfolding between
between_says a x b e = let w = both_true _ _ e in (leb-true a x w.0, leb-true x b w.1)

-- an entry's three tests
pub entry_says : (j : List ℕ) (p a : ℕ) → entry_holds j p a ≡ true → (offset j p ≡ a) × (1 ≤ count j p) × (count j p ≤ 128)
unfolding entry_holds
entry_says j p a e =
    let w = both_true _ _ e in
    let b = between_says 1 (count j p) 128 (both_true _ _ w.1).0 in
    (eqb-true _ _ w.0, b.0, b.1)

-- the bodies that follow end with the bytes
entries_end : (j : List ℕ) (n p a : ℕ) → entries_hold j n p a ≡ true → a ≤ size j
unfolding entries_hold
entries_end j zero p a e = let z = eqb-true a (size j) e in omega arith
entries_end j (suc n) p a e = let w = entries_end j n (p + 1) (a + count j p * 6) (both_true _ _ e).1 in omega (arith, w)

entries_say : (j : List ℕ) (n p a : ℕ) → entries_hold j n p a ≡ true → (q : ℕ) → p ≤ q → q < p + n → Entry j q
unfolding entries_hold
entries_say j zero p a e q h l = let z : ⊥ = omega arith in absurd z
entries_say j (suc n) p a e q h l =
    ⊎_elim
    (λ s. rw (← s) here)
    (λ s. entries_say j n (p + 1) (a + count j p * 6) w.1 q (omega arith) (omega arith))
    (equal? p q)
  where
    w : (entry_holds j p a ≡ true) × (entries_hold j n (p + 1) (a + count j p * 6) ≡ true)
    w = both_true _ _ e

    here : Entry j p
    here =
        let v = entry_says j p a w.0 in
        let o = v.0 in
        let end = entries_end j n (p + 1) (a + count j p * 6) w.1 in
        record { some = v.1; few = v.2; inside = omega (arith, o, end) }

pub contents_say : (j : List ℕ) → contents_hold j ≡ true → (p : ℕ) → p < procedures j → Entry j p
unfolding contents_hold
contents_say j e p h = entries_say j (procedures j) 0 (entry_at (procedures j)) (both_true _ _ e).1 p (omega arith) (omega arith)

-- a refusal that is not given
pub passed : (b : Bool) (k : ℕ) (x : Answer) → pick b (Refused k) x ≡ Moved 0 → (b ≡ false) × (x ≡ Moved 0)
unfolding pick
passed true k x e = let z : ◌≡◌ {A = ℕ} 0 1 = cc in let w : ⊥ = omega arith in absurd w
passed false k x e = (refl, e)

module _ (j : List ℕ) (e : job_answer j ≡ Moved 0) where
  head_holds_lem : head_holds j ≡ true
  unfolding job_answer refusal10
  head_holds_lem = not-false _ (passed _ 10 _ e).0

  contents_hold_lem : contents_hold j ≡ true
  unfolding job_answer refusal11
  contents_hold_lem = not-false _ (passed _ 11 _ (passed _ 10 _ e).1).0

  bodies_hold : upto (body_holds j) (procedures j) 0 ≡ true
  unfolding job_answer refusal12
  bodies_hold = not-false _ (passed _ 12 _ (passed _ 11 _ (passed _ 10 _ e).1).1).0

  body_holds_lem : (p : ℕ) → p < procedures j → (last_holds j p ≡ true) × (upto (instruction_holds j p) (count j p) 0 ≡ true)
  unfolding body_holds
  body_holds_lem p h = both_true _ _ (upto_says (body_holds j) (procedures j) 0 bodies_hold p (omega arith) (omega arith))

  ranges : (between 1 (procedures j) 64 ≡ true) × (between 1 (segment_length j) 64 ≡ true)
  unfolding head_holds
  ranges = let w = both_true _ _ (both_true _ _ head_holds_lem).1 in (w.0, (both_true _ _ w.1).0)

  top_rights : rights j 0 ≡ 255
  unfolding contents_hold
  top_rights = eqb-true _ _ (both_true _ _ contents_hold_lem).0

  pub accepted : Accepted j
  accepted =
      let n = between_says 1 (procedures j) 64 ranges.0 in
      let l = between_says 1 (segment_length j) 64 ranges.1 in
      record {
        some = n.0;
        few = n.1;
        segment_some = l.0;
        segment_few = l.1;
        top = top_rights;
        entries = contents_say j contents_hold_lem;
        instructions = λ p i h k. upto_says (instruction_holds j p) (count j p) 0 (body_holds_lem p h).1 i (omega arith) (omega arith);
        last = λ p h. (body_holds_lem p h).0;
      }
