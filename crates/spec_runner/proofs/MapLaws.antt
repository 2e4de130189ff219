-- THE READY MAP says what document 01 says of it: each bit, the number of set bits, and the lowest ready task.
use Rattle.std.specs.Prelude.{◌≡◌, List}
use Rattle.std.proofs.Math.Path.{refl, ap, sym, fun_ext}
use Rattle.std.proofs.Common.{◌∙◌, div-add-mod', arith, eq-eqb}
use Rattle.std.proofs.Math.Bool.{Bool, true, false, not}
use Rattle.std.proofs.lemmas.Bool.{false≢true}
use Prim.Native.Nat.{ℕ, zero, suc, ◌*◌, ◌/◌, ◌%◌, ◌^◌, ◌<◌}
use Rattle.std.specs.Int.Count.{ones}
use Rattle.spec_words.specs.Words.{load, size, pick, pass, halt}
use Rattle.spec_lists.specs.Counting.{one, over, total}
use Rattle.spec_runner.specs.declared.StepAnswer.TheVariants.{Moved, Refused}
use Rattle.spec_runner.specs.Answers.{has_moved, Outcome, outcome, answer_of}
use Rattle.spec_runner.specs.Rules.{refused, job_tested, tested}
use Rattle.spec_runner.specs.Step.{step_tested, step_outcome}
use Rattle.spec_runner.specs.Ready.{ready_bit, bits_from, words_for, lowest_from, map_of, ready_map, no_map, test_answer, mapped, ready_outcome}
use Rattle.spec_runner.proofs.ReadyLaws.{bits_at, count_is, Lowest, lowest_is}

word_at : (f : ℕ → Bool) (w : ℕ) → w < 4 → load (map_of (words_for f)) w ≡ bits_from f 32 (w * 32)
unfolding load map_of words_for
word_at f zero h = refl
word_at f (suc zero) h = refl
word_at f (suc (suc zero)) h = refl
word_at f (suc (suc (suc zero))) h = refl
word_at f (suc (suc (suc (suc w)))) h = let z : ⊥ = omega arith in absurd z

module _ (j m r : List ℕ) where
  -- "bit t mod 32 of word t/32 is set exactly when task t's next step would move"
  pub ready_bit_lem : (t : ℕ) → t < 128 → load (ready_map j m r) (t / 32) / 2 ^ (t % 32) % 2 ≡ one (ready_bit j m r t)
  unfolding ready_map
  ready_bit_lem t h =
      ap (λ (x : ℕ). x / 2 ^ (t % 32) % 2) (word_at f (t / 32) (omega arith))
      ∙ bits_at f 32 (t / 32 * 32) (t % 32) (omega arith)
      ∙ ap (λ (x : ℕ). one (f x)) (div-add-mod' t 32)
    where
      f : ℕ → Bool
      f = ready_bit j m r

  -- "the number of set bits"
  pub ready_count : load (ready_map j m r) 4 ≡ total 128 (λ t. one (ready_bit j m r t))
  unfolding ready_map map_of load words_for
  ready_count = count_is (ready_bit j m r)

  -- "the lowest ready task, or none"
  pub ready_lowest : Lowest (ready_bit j m r) 0 (load (ready_map j m r) 5)
  unfolding ready_map map_of load words_for
  ready_lowest = lowest_is (ready_bit j m r)

-- THE WORDS LENT get the map whatever the answer: where the map is refused, so is every step.
-- A refusal has not moved: below it the two agree.
rung : (b : Bool) (k : ℕ) (m r : List ℕ) (x y : Outcome) → (has_moved (answer_of x) ≡ false → has_moved (answer_of y) ≡ false)
    → has_moved (answer_of (pick b (outcome (Refused k) m r) x)) ≡ false → has_moved (answer_of (pick b (outcome (Refused k) m r) y)) ≡ false
unfolding pick has_moved answer_of
rung true k m r x y h e = refl
rung false k m r x y h e = h e

none_ready : map_of (words_for (λ t. false)) ≡ no_map
unfolding map_of words_for bits_from total one pick over ones lowest_from
none_ready = refl

module _ (j m r : List ℕ) where
  refused_too : (o : Outcome) → has_moved (test_answer j m r) ≡ false → has_moved (answer_of (tested j m r o)) ≡ false
  unfolding test_answer tested job_tested refused
  refused_too o = rung _ 1 m r _ _ (rung _ 1 m r _ _ (rung _ 10 m r _ _ (rung _ 11 m r _ _ (rung _ 12 m r _ _ (rung _ 2 m r _ _ never)))))
    where
      never : has_moved (answer_of (outcome Moved m r)) ≡ false → has_moved (answer_of o) ≡ false
      never e = unfold has_moved in unfold answer_of in absurd (false≢true (sym e))

  pub ready_words : (o : List ℕ) → size o ≡ 6 → ready_outcome j m r o ≡ mapped (test_answer j m r) (ready_map j m r)
  unfolding ready_outcome
  ready_words o l = pass _ (ap not (eq-eqb _ _ l)) (ap (mapped (test_answer j m r)) (go (has_moved (test_answer j m r)) refl))
    where
      go : (b : Bool) → has_moved (test_answer j m r) ≡ b → pick b (ready_map j m r) no_map ≡ ready_map j m r
      go true e = halt _ _ refl
      go false e =
          unfold ready_map in unfold ready_bit in unfold step_outcome in
          pass _ refl (sym none_ready ∙ ap (λ (f : ℕ → Bool). map_of (words_for f)) (fun_ext (λ t. sym (refused_too (step_tested j m r t) e))))
