-- THE MEMORY TEST IS EXACTLY THE MEMORY RULES.
use Rattle.std.specs.Prelude.{◌≡◌, true, List, ◌↔◌, ℕ, ◌+◌, ◌*◌, ◌≤◌}
use Rattle.std.proofs.Common.{ap, sym, ◌∙◌, arith}
use Rattle.spec_words.specs.Words.{load}
use Rattle.spec_layout.specs.Layout.{NONE, TASKS, TASK_WORDS, record_of}
use Rattle.spec_tree.specs.Tour.{entered}
use Rattle.spec_rules.specs.Contents.{Contents, word, heads, tails, holders, decode, scan_decodes}
use Rattle.spec_rules.specs.Rules.{Rules}
use Rattle.spec_rules.specs.Test.{top_test, idle_test, tree_test, test, rules_hold}
use Rattle.law_rules_same.specs.Passed.{marks, toured, opening_says, says_opening, Passed, test_says, says_test}
use Rattle.law_rules_segments.specs.Segments.{segments_say, says_segments, rules_by_counts}
use Rattle.law_rules_tasks.specs.Tasks.{tasks_say, says_tasks, tour_whole, entered_holders, marks_held, holders_exited}
use Rattle.law_rules_views.specs.Members.{load_drop}
use Rattle.law_rules_views.specs.Toured.{Toured, same_heads, same_tails}
use Rattle.law_rules_views.specs.Views.{views_say, says_views}

decoded_word : (m : List ℕ) (t i : ℕ) → word (decode m) t i ≡ load m (TASKS + t * TASK_WORDS + i)
unfolding word record_of
decoded_word m t i = load_drop m (TASKS + t * TASK_WORDS) i

module _ (c : Contents) where
  -- by the tests of tasks the tour goes through the holders
  pub whole_tour : top_test c ≡ true → idle_test c ≡ true → tree_test c (marks c) 0 ≡ true → Toured c (toured c)
  whole_tour a b e =
      record {
        whole = tour_whole c a b e;
        same = entered_holders c a b e;
        held = marks_held c a b e;
        exited = holders_exited c a b e;
      }

module _ (c : Contents) (small : (t i : ℕ) → word c t i ≤ NONE) where
  passed_rules : Passed c → Rules c
  passed_rules p =
      let o = opening_says c p.range in
      let v = whole_tour c p.top p.free p.tree in
      let s = p.seen in
      let xs = toured c in
      let hs = heads c (entered xs) in
      let es = tails c (entered xs) in
      let g = segments_say c hs es o.number_range.1 p.room s.segs s.holding in
      record {
        opening = o;
        tasks = tasks_say c p.top p.free p.tree;
        views_right = views_say c xs v small s.words s.order s.owned g.1 g.2;
        segments =
            rules_by_counts c hs es (heads c (holders c)) (tails c (holders c)) (λ x. sym (same_heads c xs v x)) (λ x. sym (same_tails c xs v x)) g.0;
      }

  rules_passed : Rules c → Passed c
  rules_passed r =
      let few = r.opening.number_range.1 in
      let k = says_tasks c r.tasks in
      let v = whole_tour c k.0 k.1 k.2 in
      let xs = toured c in
      let hs = heads c (entered xs) in
      let es = tails c (entered xs) in
      let w = says_views c xs v few r.views_right in
      let g =
      says_segments c hs es few
      (rules_by_counts c (heads c (holders c)) (tails c (holders c)) hs es (same_heads c xs v) (same_tails c xs v) r.segments) w.3 w.4 in
      record {
        range = says_opening c r.opening;
        room = g.0;
        top = k.0;
        free = k.1;
        tree = k.2;
        seen = record { words = w.0; order = w.1; owned = w.2; segs = g.1; holding = g.2 };
      }

  pub rules_same : (test c ≡ true) ↔ Rules c
  rules_same = ((λ e. passed_rules (test_says c e)), (λ r. says_test c (rules_passed r)))

-- of a memory of words of 32 bits
pub memory_rules : (m : List ℕ) → ((a : ℕ) → load m a ≤ NONE) → (rules_hold m ≡ true) ↔ Rules (decode m)
unfolding rules_hold
memory_rules m small = (
  (λ e. (rules_same (decode m) words).0 (ap test (sym (scan_decodes m)) ∙ e)),
  (λ r. ap test (scan_decodes m) ∙ (rules_same (decode m) words).1 r),
)
  where
    words : (t i : ℕ) → word (decode m) t i ≤ NONE
    words t i = let a = small (TASKS + t * TASK_WORDS + i) in let b = decoded_word m t i in omega (arith, a, b)
