-- A file that is longer than the largest job is no job, and its first 49,541 bytes tell with which number it is refused.
use Rattle.std.specs.Prelude.{◌≡◌, Bool, List, ℕ, zero, suc, ◌+◌, ◌*◌, ◌<◌, ◌≤◌, leb, take}
use Rattle.std.proofs.Math.Path.{refl, ap, sym}
use Rattle.std.proofs.Common.{◌∙◌, arith, get_or-take, le-leb, leb-true, eqb-true}
use Rattle.std.proofs.Math.Bool.{true, false, not}
use Rattle.std.proofs.Math.Seq.{length-take-le}
use Rattle.spec_words.specs.Words.{load, size, pick, both, both_true, both_on, both_off, both_right_on, halt, pass, refuted}
use Rattle.spec_answers.specs.declared.Answer.TheVariants.{Refused}
use Rattle.spec_job.specs.Fields.{bytes2, procedures, segment_length, entry_at, count}
use Rattle.spec_job.specs.Test.{between, head_holds, refusal10, entries_hold, contents_hold, refusal11, job_answer}
use Rattle.spec_job.specs.Accepted.{entry_says}

-- n and L in range
unfoldable in_range : List ℕ → Bool
in_range j = both (between 1 (procedures j) 64) (between 1 (segment_length j) 64)

at_most : (a x b : ℕ) → between a x b ≡ true → x ≤ b
unfolding between
at_most a x b e = leb-true x b (both_true _ _ e).1

-- n entries give bodies of at most 768 bytes each
entries_short : (j : List ℕ) (n p a : ℕ) → entries_hold j n p a ≡ true → size j ≤ a + n * 768
unfolding entries_hold
entries_short j zero p a e = let z = eqb-true a (size j) e in omega (arith, z)
entries_short j (suc n) p a e =
    let w = both_true _ _ e in
    let r = entries_short j n (p + 1) (a + count j p * 6) w.1 in
    let s = (entry_says j p a w.0).2 in
    omega (arith, r, s)

module _ (j : List ℕ) (long : 49540 < size j) where
  -- head and contents are there, so the two numbers decide
  head_long : head_holds j ≡ in_range j
  unfolding head_holds in_range
  head_long = both_on (le-leb 4 (size j) (omega (arith, long))) ∙ go (between 1 (procedures j) 64) refl
    where
      go : (b : Bool) → between 1 (procedures j) 64 ≡ b
          → both b (both (between 1 (segment_length j) 64) (leb (entry_at (procedures j)) (size j))) ≡ both b (between 1 (segment_length j) 64)
      go true e =
          let most = at_most 1 (procedures j) 64 e in
          ap (both true) (both_right_on _ (le-leb (entry_at (procedures j)) (size j) (omega (arith, most, long))))
      go false e = both_off _ refl ∙ sym (both_off _ refl)

  -- the bodies end before the file does
  contents_long : in_range j ≡ true → contents_hold j ≡ false
  unfolding in_range contents_hold
  contents_long h =
      refuted (contents_hold j)
      (λ e. let s = entries_short j (procedures j) 0 (entry_at (procedures j)) (both_true _ _ e).1 in
      let most = at_most 1 (procedures j) 64 (both_true _ _ h).0 in omega (arith, s, most, long))

  long_refused : job_answer j ≡ pick (in_range j) (Refused 11) (Refused 10)
  long_refused = go (in_range j) refl
    where
      go : (b : Bool) → in_range j ≡ b → job_answer j ≡ pick b (Refused 11) (Refused 10)
      go true e = unfold job_answer refusal10 refusal11 pick in pass _ (ap not (head_long ∙ e)) (halt _ _ (ap not (contents_long e)))
      go false e = unfold job_answer refusal10 pick in halt _ _ (ap not (head_long ∙ e))

-- the first bytes of a file
same_byte : (k i : ℕ) (j : List ℕ) → i < k → load (take k j) i ≡ load j i
unfolding load
same_byte k i j h = get_or-take k j i 0 h

same_range : (k : ℕ) (j : List ℕ) → 4 ≤ k → in_range (take k j) ≡ in_range j
unfolding in_range procedures segment_length bytes2
same_range k j h =
    simp (same_byte k 0 j (omega arith), same_byte k (0 + 1) j (omega arith), same_byte k 2 j (omega arith), same_byte k (2 + 1) j (omega arith))

-- THE FIRST BYTES TELL: a longer file is refused by its first 49,541 bytes as by all of them.
pub first_bytes_tell : (j : List ℕ) → 49540 < size j → job_answer (take 49541 j) ≡ job_answer j
first_bytes_tell j h =
    long_refused (take 49541 j) (unfold size in let e = length-take-le 49541 j (unfold size in h) in omega (arith, e))
    ∙ ap (λ (b : Bool). pick b (Refused 11) (Refused 10)) (same_range 49541 j (omega arith))
    ∙ sym (long_refused j h)
