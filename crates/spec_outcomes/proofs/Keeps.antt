-- "no refused or waiting call changes a word": only a call that moves leaves other words, and a kept take or a left never does. And what a
-- kept take answers.
use Rattle.std.specs.Prelude.{◌≡◌, refl, Bool, true, false, List, [], ◌∷◌, ℕ}
use Rattle.spec_words.specs.Words.{pick}
use Rattle.spec_layout.specs.Layout.{queue_head, read}
use Rattle.spec_answers.specs.declared.Answer.{Answer}
use Rattle.spec_answers.specs.declared.Answer.TheVariants.{Moved, Empty, Waits, Refused}
use Rattle.spec_answers.specs.declared.Finding.{Finding}
use Rattle.spec_answers.specs.declared.Finding.TheVariants as Finding
use Rattle.spec_answers.specs.Answers.{Outcome, outcome, answer_of, words_of, when_moved}
use Rattle.spec_answers.specs.Calls.{Call, open_call, spawn_call, push_call, take_call, sync_call, finish_call, left_call}
use Rattle.spec_outcomes.specs.Waits.{tested}
use Rattle.spec_outcomes.specs.Open.{open_outcome}
use Rattle.spec_outcomes.specs.Spawn.{spawned, spawn_tested, spawn_outcome}
use Rattle.spec_outcomes.specs.Push.{pushed_apart, pushed_behind, pushed, pushed_all, pushed_run, push_tested, push_outcome}
use Rattle.spec_outcomes.specs.Take.{take_gives, pop_allowed, take_tested, take_outcome}
use Rattle.spec_outcomes.specs.Sync.{when_reduced, sync_tested, sync_outcome}
use Rattle.spec_outcomes.specs.Finish.{finish_tested, finish_outcome}
use Rattle.spec_outcomes.specs.Left.{queued, left_tested, left_outcome}
use Rattle.spec_outcomes.specs.Outcomes.{outcome_of}

-- the outcome is a move, or leaves the words m as they were
abbrev pub Keeps : List ℕ → Outcome → Type 0
Keeps m (outcome (Moved v) n) = Unit
Keeps m (outcome Empty n) = n ≡ m
Keeps m (outcome Waits n) = n ≡ m
Keeps m (outcome (Refused k) n) = n ≡ m

keeps_pick : (m : List ℕ) (b : Bool) (x y : Outcome) → Keeps m x → Keeps m y → Keeps m (pick b x y)
unfolding pick
keeps_pick m true x y p q = p
keeps_pick m false x y p q = q

keeps_any : (m : List ℕ) (a : Answer) → Keeps m (outcome a m)
keeps_any m (Moved v) = tt
keeps_any m Empty = refl
keeps_any m Waits = refl
keeps_any m (Refused k) = refl

keeps_tested : (m : List ℕ) (o : Outcome) → Keeps m o → Keeps m (tested m o)
unfolding tested
keeps_tested m o p = keeps_pick m _ _ _ refl (keeps_pick m _ _ _ refl p)

keeps_open : (m : List ℕ) (l n : ℕ) → Keeps m (open_outcome m l n)
unfolding open_outcome
keeps_open m l n = keeps_pick m _ _ _ refl (keeps_pick m _ _ _ refl tt)

keeps_spawned : (m : List ℕ) (t r : ℕ) → Keeps m (spawned m t r)
unfolding spawned
keeps_spawned m t r = tt

keeps_spawn : (m : List ℕ) (t r : ℕ) → Keeps m (spawn_outcome m t r)
unfolding spawn_outcome spawn_tested
keeps_spawn m t r =
    keeps_tested m _ (keeps_pick m _ _ _ refl (keeps_pick m _ _ _ refl (keeps_pick m _ _ _ refl (keeps_pick m _ _ _ refl (keeps_spawned m t r)))))

keeps_apart : (m : List ℕ) (t q v x : ℕ) → Keeps m (pushed_apart m t q v x)
unfolding pushed_apart
keeps_apart m t q v x = keeps_pick m _ _ _ refl tt

keeps_behind : (m : List ℕ) (t q v e : ℕ) → Keeps m (pushed_behind m t q v e)
unfolding pushed_behind
keeps_behind m t q v e = tt

pub keeps_pushed : (m : List ℕ) (t q v : ℕ) → Keeps m (pushed m t q v)
unfolding pushed
keeps_pushed m t q v =
    keeps_pick m _ _ _ (keeps_pick m _ _ _ refl (keeps_apart m t q v _))
    (keeps_pick m _ _ _ refl (keeps_pick m _ _ _ tt (keeps_pick m _ _ _ refl (keeps_behind m t q v _))))

-- a run that is refused part way
keeps_moved : (m : List ℕ) (o : Outcome) (f : ℕ → List ℕ → Outcome) → ((v : ℕ) (n : List ℕ) → Keeps m (f v n)) → Keeps m (when_moved m o f)
unfolding when_moved
keeps_moved m (outcome (Moved v) n) f p = p v n
keeps_moved m (outcome Empty n) f p = refl
keeps_moved m (outcome Waits n) f p = refl
keeps_moved m (outcome (Refused k) n) f p = refl

keeps_all : (m n : List ℕ) (t q w : ℕ) (vs : List ℕ) → Keeps m (pushed_all m n t q w vs)
unfolding pushed_all
keeps_all m n t q w [] = tt
keeps_all m n t q w (v ∷ vs) = keeps_moved m (pushed n t q v) _ (λ x l. keeps_all m l t q x vs)

keeps_push : (m : List ℕ) (t q : ℕ) (vs : List ℕ) → Keeps m (push_outcome m t q vs)
unfolding push_outcome push_tested pushed_run
keeps_push m t q vs =
    keeps_tested m _ (keeps_pick m _ _ _ refl (keeps_pick m _ _ _ refl (keeps_pick m _ _ _ refl (keeps_pick m _ _ _ refl
    (keeps_pick m _ _ _ refl (keeps_all m m t q 0 vs))))))

keeps_allowed : (m : List ℕ) (t q : ℕ) (o : Outcome) → Keeps m o → Keeps m (pop_allowed m t q o)
unfolding pop_allowed
keeps_allowed m t q o p = keeps_pick m _ _ _ refl (keeps_pick m _ _ _ refl (keeps_pick m _ _ _ refl p))

keeps_found : (m : List ℕ) (t q : ℕ) (keep : Bool) (f : Finding) → Keeps m (take_gives m t q keep f)
unfolding take_gives
keeps_found m t q keep (Finding.Value v) = tt
keeps_found m t q keep Finding.Empty = refl
keeps_found m t q keep Finding.Waits = refl

keeps_reduced : (m : List ℕ) (t : ℕ) (b : Bool) (o : Outcome) → Keeps m o → Keeps m (when_reduced m t b o)
unfolding when_reduced
keeps_reduced m t b o p = keeps_pick m _ _ _ refl (keeps_pick m _ _ _ refl (keeps_pick m _ _ _ refl p))

pub keeps : (c : Call) (m : List ℕ) → Keeps m (outcome_of c m)
unfolding outcome_of take_outcome take_tested sync_outcome sync_tested finish_outcome finish_tested left_outcome left_tested
keeps (open_call l n) m = keeps_open m l n
keeps (spawn_call t r) m = keeps_spawn m t r
keeps (push_call t q vs) m = keeps_push m t q vs
keeps (take_call t q keep) m = keeps_tested m _ (keeps_allowed m t q _ (keeps_found m t q keep _))
keeps (sync_call t) m = keeps_tested m _ (keeps_reduced m t _ _ tt)
keeps (finish_call t) m = keeps_tested m _ (keeps_pick m _ _ _ (keeps_reduced m t _ _ tt) (keeps_reduced m t _ _ tt))
keeps (left_call q i) m = keeps_tested m _ (keeps_pick m _ _ _ refl (keeps_pick m _ _ _ refl (keeps_any m (queued 256 m (read m (queue_head 0 q)) i))))

-- the same of outcomes that leave the words whatever is answered
same_pick : (m : List ℕ) (b : Bool) (x y : Outcome) → words_of x ≡ m → words_of y ≡ m → words_of (pick b x y) ≡ m
unfolding pick
same_pick m true x y p q = p
same_pick m false x y p q = q

same_tested : (m : List ℕ) (o : Outcome) → words_of o ≡ m → words_of (tested m o) ≡ m
unfolding tested words_of
same_tested m o p = same_pick m _ _ _ refl (same_pick m _ _ _ refl p)

same_found : (m : List ℕ) (t q : ℕ) (f : Finding) → words_of (take_gives m t q true f) ≡ m
unfolding take_gives words_of pick
same_found m t q (Finding.Value v) = refl
same_found m t q Finding.Empty = refl
same_found m t q Finding.Waits = refl

-- "told whether the value stays queued": where it stays no word changes, whatever the take finds.
pub kept_take_keeps : (t q : ℕ) (m : List ℕ) → words_of (outcome_of (take_call t q true) m) ≡ m
unfolding outcome_of take_outcome take_tested pop_allowed words_of
kept_take_keeps t q m = same_tested m _ (same_pick m _ _ _ refl (same_pick m _ _ _ refl (same_pick m _ _ _ refl (same_found m t q _))))

-- "It answers a value, empty or waits", whether the value stays or not
kept_pick : (b : Bool) (x y z : Outcome) → answer_of y ≡ answer_of z → answer_of (pick b x y) ≡ answer_of (pick b x z)
unfolding pick
kept_pick true x y z e = refl
kept_pick false x y z e = e

kept_found : (m : List ℕ) (t q : ℕ) (keep : Bool) (f : Finding) → answer_of (take_gives m t q keep f) ≡ answer_of (take_gives m t q false f)
unfolding take_gives answer_of
kept_found m t q keep (Finding.Value v) = refl
kept_found m t q keep Finding.Empty = refl
kept_found m t q keep Finding.Waits = refl

pub keep_answers : (t q : ℕ) (keep : Bool) (m : List ℕ) → answer_of (outcome_of (take_call t q keep) m) ≡ answer_of (outcome_of (take_call t q false) m)
unfolding outcome_of take_outcome take_tested pop_allowed tested
keep_answers t q keep m =
    kept_pick _ _ _ _ (kept_pick _ _ _ _ (kept_pick _ _ _ _ (kept_pick _ _ _ _ (kept_pick _ _ _ _ (kept_found m t q keep _)))))

-- "Left answers value number index (from 0) still queued": the value stays queued, so no word changes, although the call moves.
pub left_keeps : (q i : ℕ) (m : List ℕ) → words_of (outcome_of (left_call q i) m) ≡ m
unfolding outcome_of left_outcome left_tested words_of
left_keeps q i m = same_tested m _ (same_pick m _ _ _ refl (same_pick m _ _ _ refl refl))
