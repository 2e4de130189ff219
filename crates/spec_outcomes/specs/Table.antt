-- The cases, tried on the outcomes of the calls.
use Rattle.std.specs.Prelude.{◌≡◌, refl, Bool, true, false, List, [], ◌∷◌, ◌++◌, ℕ, eqb, replicate}
use Rattle.std.proofs.Common.{ap, sym, ◌∙◌}
use Rattle.std.proofs.Math.Option.{Option, none, some, none-ne-some, some-injective}
use Rattle.spec_words.specs.Words.{load, store, size, pick, pick_true, pick_false, both, either}
use Rattle.spec_words.specs.Blocks.{store_all, rows}
use Rattle.spec_lists.specs.Counting.{one, occurrences}
use Rattle.spec_lists.specs.Tests.{each, upto, each_word}
use Rattle.spec_lists.specs.Distinct.{fresh, distinct}
use Rattle.spec_layout.specs.Layout.{WORDS, value, address, read, write, record_of}
use Rattle.spec_answers.specs.Answers.{Outcome, outcome, answer_of, words_of, status_of, value_of, when_moved, same_answer}
use Rattle.spec_tree.specs.Rights.{bits, pushes, pops, uses, each_queue, some_queue, shares_pop, subset}
use Rattle.spec_tree.specs.Tour.{exiting, entering, after, tour, entered, seek, sibling, oldest}
use Rattle.spec_rules.specs.Contents.{segment_of, tables, look, scan, word, part, locals, heads, tails, owners}
use Rattle.spec_rules.specs.Test.{within, in_range, top_test, idle_test, kin, link_test, tree_test, view_word, views_test, marked, passed, passed_at, order_at, order_of}
use Rattle.spec_rules.specs.Test.{order_test, owners_test, segment_test, chain, chains, held_test, view_tests, test, rules_hold}
use Rattle.spec_outcomes.specs.Open.{down, stacked, segmented, topped, opened, open_outcome}
use Rattle.spec_outcomes.specs.Segments.{place, value_at, stored, dropped, has_none_free, next_free, taken, released, index_of, head_index, linked_by, renamed, linked}
use Rattle.spec_outcomes.specs.Views.{view_of, is_empty, head_of, tail_of, reducible, frees, behind, reduced, set_view, joined, merged, task_at, kind_at, has_part}
use Rattle.spec_outcomes.specs.Views.{stands_at, just_before, returned_to}
use Rattle.spec_outcomes.specs.Waits.{tested, unfinished, blocked, child_pops, has_child, pusher_before}
use Rattle.spec_outcomes.specs.Spawn.{for_queues, passed_user, passed_queue, kept_user, kept_queue, child_views, passed_on, child_made, spawned, spawn_tested}
use Rattle.spec_outcomes.specs.Spawn.{spawn_outcome}
use Rattle.spec_outcomes.specs.Push.{pushed_apart, pushed_behind, pushed, pushed_all, link_frees, capacity, ends_away, runs_out, pushed_run}
use Rattle.spec_outcomes.specs.Push.{push_tested, push_outcome}
use Rattle.spec_outcomes.specs.Take.{has_value, finding, popped, take_gives, pop_allowed, take_tested, take_outcome}
use Rattle.spec_outcomes.specs.Sync.{syncs, synced_queue, synced, when_reduced, sync_tested, sync_outcome}
use Rattle.spec_outcomes.specs.Finish.{returned, finishes, views_returned, heir, queue_returned, finished_queue, unlinked, freed_record, finished, top_finished}
use Rattle.spec_outcomes.specs.Finish.{finish_tested, finish_outcome}
use Rattle.spec_outcomes.specs.Left.{queued, left_tested, left_outcome}
use Rattle.spec_outcomes.specs.Outcomes.{outcome_of}
use Rattle.spec_cases.specs.Rows.{Case, row}

-- The words after the calls of a case, where the first call finds the words m; none where a call gets another answer.
unfoldable pub tried : Case → List ℕ → Option (List ℕ)
tried [] m = some m
tried (row c a ∷ rest) m =
    elim (outcome_of c m) [ outcome b after ↦ let more = tried rest after in pick (same_answer b a) more none ]

unfoldable pub is_some : Option (List ℕ) → Bool
is_some none = false
is_some (some m) = true

-- one case after another
pub tried_more : (c d : Case) (m n : List ℕ) → tried c m ≡ some n → tried (c ++ d) m ≡ tried d n
unfolding tried
tried_more [] d m n e = ap (tried d) (some-injective m n e)
tried_more (row c a ∷ rest) d m n e = go (outcome_of c m) (λ after. tried_more rest d after n) e
  where
    picked : (b : Bool) (x y : Option (List ℕ)) → (x ≡ some n → y ≡ tried d n) → pick b x none ≡ some n → pick b y none ≡ tried d n
    picked true x y f h = pick_true y none ∙ f (sym (pick_true x none) ∙ h)
    picked false x y f h = absurd (none-ne-some n (sym (pick_false x none) ∙ h))

    go : (o : Outcome) → ((after : List ℕ) → tried rest after ≡ some n → tried (rest ++ d) after ≡ tried d n)
        → elim o [ outcome b after ↦ pick (same_answer b a) (tried rest after) none ] ≡ some n
        → elim o [ outcome b after ↦ pick (same_answer b a) (tried (rest ++ d) after) none ] ≡ tried d n
    go (outcome b after) f h = picked (same_answer b a) _ _ (f after) h

-- Opening may find any words: most cases begin with these.
abbrev pub lent : List ℕ
lent = replicate WORDS 7

-- the same, with every definition open, so that it can be computed
unfoldable pub computed : Case → List ℕ → Option (List ℕ)
unfolding load store size pick both either store_all rows one occurrences each upto each_word fresh distinct address read write record_of answer_of words_of
    status_of value_of when_moved same_answer bits pushes pops uses each_queue some_queue shares_pop subset exiting entering after tour entered seek sibling oldest segment_of
    tables look scan word part locals heads tails owners within in_range top_test idle_test kin link_test tree_test view_word views_test marked passed passed_at
    order_at order_of order_test owners_test segment_test chain chains held_test view_tests test rules_hold down stacked segmented topped opened open_outcome place
    value_at stored dropped has_none_free next_free taken released index_of head_index linked_by renamed linked view_of is_empty head_of tail_of reducible frees behind
    reduced set_view joined merged task_at kind_at has_part stands_at just_before returned_to tested unfinished blocked child_pops has_child pusher_before
    for_queues passed_user passed_queue kept_user kept_queue child_views passed_on child_made spawned spawn_tested spawn_outcome pushed_apart pushed_behind pushed
    pushed_all link_frees capacity ends_away runs_out pushed_run push_tested push_outcome has_value finding popped take_gives pop_allowed take_tested take_outcome syncs synced_queue synced
    when_reduced sync_tested sync_outcome returned finishes views_returned heir queue_returned finished_queue unlinked freed_record finished top_finished finish_tested
    finish_outcome queued left_tested left_outcome outcome_of tried
computed c m = tried c m

pub computes : (c : Case) (m : List ℕ) → computed c m ≡ tried c m
unfolding computed
computes c m = refl

unfoldable pub right : List ℕ → Case → Bool
unfolding computed is_some
right m c = is_some (computed c m)

-- Words that document 01 fixes: "The values of segment s are the L words that start at s times L in the value area." Value number k of that area
-- is v.
pub data Placed : Type 0 where
  placed : ℕ → ℕ → Placed

unfoldable pub stand : List Placed → List ℕ → Bool
stand [] m = true
stand (placed k v ∷ ps) m = let more = stand ps m in both (eqb (read m (value k)) v) more

unfoldable pub stand_in : List Placed → Option (List ℕ) → Bool
stand_in ps none = false
stand_in ps (some m) = stand ps m

-- each call gets its answer, and then the values stand there
unfoldable pub leaves : List ℕ → Case → List Placed → Bool
unfolding computed stand_in stand both read address load
leaves m c ps = stand_in ps (computed c m)
