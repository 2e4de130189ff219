-- What every call tests first, and the waits.
use Rattle.std.specs.Prelude.{◌≡◌, refl, Bool, true, not, List, ℕ, ltb, eqb}
use Rattle.std.proofs.Common.{ap, eq-eqb}
use Rattle.spec_words.specs.Words.{size, pick, pass, both}
use Rattle.spec_layout.specs.Layout.{WORDS, NONE, STATUS, OLDER, YOUNGEST, UNFINISHED, task, rights_of, read, record_of}
use Rattle.spec_answers.specs.declared.Answer.TheVariants.{Refused}
use Rattle.spec_answers.specs.Answers.{Outcome, outcome}
use Rattle.spec_tree.specs.Rights.{pushes, pops, shares_pop}
use Rattle.spec_tree.specs.Tour.{END, MARKS, after, seek, sibling}
use Rattle.spec_rules.specs.Test.{rules_hold}

-- 1 "a lent memory has another length", 2 "the memory rules fail", else what the call itself gives
unfoldable pub tested : List ℕ → Outcome → Outcome
tested m o = pick (not (eqb (size m) WORDS)) (outcome (Refused 1) m) (pick (not (rules_hold m)) (outcome (Refused 2) m) o)

pub test_passes : (m : List ℕ) → size m ≡ WORDS → rules_hold m ≡ true → (o : Outcome) → tested m o ≡ o
unfolding tested
test_passes m s h o = pass _ (ap not (eq-eqb _ _ s)) (pass _ (ap not h) refl)

-- 4 where not: "task is 128 or more, or not unfinished"
unfoldable pub unfinished : List ℕ → ℕ → Bool
unfinished m t = both (ltb t 128) (eqb (read m (task t STATUS)) UNFINISHED)

-- "Every call of a task .. waits while an older sibling is unfinished that shares a pop right with it on some queue."
unfoldable pub blocked : List ℕ → ℕ → Bool
blocked m t =
    not (eqb (sibling 128 (λ c. shares_pop (rights_of m c) (rights_of m t)) (record_of m) (read m (task t OLDER))) NONE)

-- "Pop and test wait while a child of the caller with pop right on q is unfinished."
unfoldable pub child_pops : List ℕ → ℕ → ℕ → Bool
child_pops m t q = not (eqb (sibling 128 (λ c. pops (rights_of m c) q) (record_of m) (read m (task t YOUNGEST))) NONE)

-- "Sync and finish wait while any child is unfinished."
unfoldable pub has_child : List ℕ → ℕ → Bool
has_child m t = not (eqb (read m (task t YOUNGEST)) NONE)

-- a pusher's spot stands before the caller's: the tour meets it behind t
unfoldable pub pusher_before : List ℕ → ℕ → ℕ → Bool
pusher_before m t q =
    not (eqb (seek MARKS (λ x. both (ltb x 128) (pushes (rights_of m x) q)) (record_of m) (after (record_of m) t)) END)
