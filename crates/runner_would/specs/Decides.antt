-- A PUSH OR A SPAWN OF A TASK THAT IS NOT BLOCKED NEVER WAITS: it moves or is refused.
use Rattle.std.specs.Prelude.{◌≡◌, refl, Bool, true, false, ℕ}
use Rattle.std.proofs.Common.{sym, subst}
use mathlib.Core.List.{List, [], ◌∷◌}
use Rattle.spec_words.specs.Words.{pick, pass}
use Rattle.spec_answers.specs.declared.Answer.{Answer}
use Rattle.spec_answers.specs.declared.Answer.TheVariants.{Moved, Empty, Waits, Refused}
use Rattle.spec_answers.specs.Answers.{Outcome, outcome, answer_of, when_moved}
use Rattle.spec_outcomes.specs.Waits.{blocked}
use Rattle.spec_outcomes.specs.Push.{pushed_apart, pushed_behind, pushed, pushed_all, pushed_run, push_tested}
use Rattle.spec_outcomes.specs.Spawn.{spawned, spawn_tested}

unfoldable pub waits? : Answer → Bool
waits? (Moved v) = false
waits? Empty = false
waits? Waits = true
waits? (Refused k) = false

-- an outcome that does not wait
abbrev pub Decides : Outcome → Type 0
Decides o = waits? (answer_of o) ≡ false

moved : (v : ℕ) (m : List ℕ) → Decides (outcome (Moved v) m)
unfolding waits? answer_of
moved v m = refl

refused : (k : ℕ) (m : List ℕ) → Decides (outcome (Refused k) m)
unfolding waits? answer_of
refused k m = refl

choice : (b : Bool) (x y : Outcome) → Decides x → Decides y → Decides (pick b x y)
unfolding pick
choice true x y f g = f
choice false x y f g = g

-- behind a rung of refusals
behind : (b : Bool) (k : ℕ) (m : List ℕ) (o : Outcome) → Decides o → Decides (pick b (outcome (Refused k) m) o)
behind b k m o h = choice b _ o (refused k m) h

-- behind the wait for older siblings
unblocked : (b : Bool) (m : List ℕ) (o : Outcome) → b ≡ false → Decides o → Decides (pick b (outcome Waits m) o)
unblocked b m o e h = subst Decides (sym (pass _ e refl)) h

-- and the next, where the first has moved
both_decide : (m : List ℕ) (o : Outcome) (f : ℕ → List ℕ → Outcome) → Decides o → ((v : ℕ) (n : List ℕ) → Decides (f v n)) → Decides (when_moved m o f)
unfolding when_moved waits? answer_of
both_decide m (outcome (Moved v) n) f h g = g v n
both_decide m (outcome Empty n) f h g = refl
both_decide m (outcome Waits n) f h g = h
both_decide m (outcome (Refused k) n) f h g = refl

module _ (t q : ℕ) where
  one_decides : (m : List ℕ) (v : ℕ) → Decides (pushed m t q v)
  unfolding pushed pushed_apart pushed_behind
  one_decides m v =
      choice _ _ _ (behind _ 9 _ _ (behind _ 2 _ _ (moved v _))) (behind _ 2 _ _ (choice _ _ _ (moved v _) (behind _ 9 _ _ (moved v _))))

  all_decide : (o m : List ℕ) (w : ℕ) (vs : List ℕ) → Decides (pushed_all o m t q w vs)
  unfolding pushed_all
  all_decide o m w [] = moved w m
  all_decide o m w (v ∷ vs) = both_decide o _ _ (one_decides m v) (λ x n. all_decide o n x vs)

  pub push_decides : (m vs : List ℕ) → blocked m t ≡ false → Decides (push_tested m t q vs)
  unfolding push_tested pushed_run
  push_decides m vs free = behind _ 4 _ _ (behind _ 5 _ _ (behind _ 6 _ _ (unblocked _ _ _ free (behind _ 9 _ _ (all_decide m m 0 vs)))))

pub spawn_decides : (m : List ℕ) (t a : ℕ) → blocked m t ≡ false → Decides (spawn_tested m t a)
unfolding spawn_tested spawned
spawn_decides m t a free = behind _ 4 _ _ (behind _ 6 _ _ (unblocked _ _ _ free (behind _ 8 _ _ (moved _ _))))
