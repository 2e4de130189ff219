-- THE MEMORY TEST ONCE THE TOP HAS FINISHED: memory that represented program order, with the top's status changed.
use Rattle.std.specs.Prelude.{◌≡◌, List, ℕ, ◌+◌, ◌-◌, ◌*◌, ◌<◌, ◌≤◌, drop, set}
use Rattle.std.proofs.Math.Path.{ap, sym}
use Rattle.std.proofs.Common.{◌∙◌, arith}
use Rattle.std.proofs.Math.Bool.{true}
use Rattle.std.proofs.Math.Logic.{inr}
use Rattle.std.proofs.Math.ListN.{take}
use Rattle.std.proofs.Math.Seq.{drop-drop, take-set-le, drop-set-lt}
use Rattle.std.proofs.lemmas.List.{drop-set-add}
use Rattle.spec_words.specs.Words.{load, store, load_same, load_other}
use Rattle.spec_layout.specs.Layout.{NONE, FREE_SEGMENTS, FREE_TASKS, SEGMENTS, SEGMENT_WORDS, TASKS, TASK_WORDS, STATUS, RIGHTS, PARENT, OLDER}
use Rattle.spec_layout.specs.Layout.{YOUNGER, YOUNGEST, FINISHED, free_segments, free_tasks, task, address, read, write, record_of}
use Rattle.spec_rules.specs.Contents.{decode, scan_decodes, word, part, part_word}
use Rattle.spec_rules.specs.Test.{top_test, test, rules_hold}
use Rattle.law_rules_same.specs.Passed.{says_test}
use Rattle.law_rules_tasks.specs.Tested.{top_says, says_top, idle_says}
use Rattle.spec_order.specs.Steps.{Item}
use Rattle.law_links.specs.Linked.{word_is}
use Rattle.law_links.specs.Idle.{idle_height}
use Rattle.law_invariant.specs.Represents.{Represents}
use Rattle.law_invariant_rules.specs.TopStatus.{ButTop, passed_but_top}
use Rattle.law_invariant_rules.specs.RulesHold.{passed}

module _ (m : List ℕ) (xs : List Item) (r : Represents m xs) (alone : read m (task 0 YOUNGEST) ≡ NONE) where
  abbrev n : List ℕ
  n = write m (task 0 STATUS) FINISHED

  other : (a : ℕ) → (a ≡ 1472 → ⊥) → load n a ≡ load m a
  unfolding write address
  other a k = load_other m 1472 a FINISHED k

  status : load n 1472 ≡ FINISHED
  unfolding write address
  status = load_same m 1472 FINISHED (let e = r.linked.sized in omega (arith, e))

  -- a stack in front of the task records
  stack : (h a : ℕ) → a + h ≤ 1472 → take h (drop a n) ≡ take h (drop a m)
  unfolding write address store
  stack h a l =
      ap (λ (x : ℕ). take h (drop a (set m x FINISHED))) (let z : 1472 ≡ a + (1472 - a) = omega (arith, l) in z)
      ∙ ap (take h) (drop-set-add a m (1472 - a) FINISHED)
      ∙ take-set-le h (drop a m) (1472 - a) FINISHED (omega (arith, l))

  same_word : (t k : ℕ) → ((t ≡ 0) × (k ≡ 0) → ⊥) → word (decode n) t k ≡ word (decode m) t k
  unfolding read address
  same_word t k u = word_is n t k ∙ other (TASKS + t * TASK_WORDS + k) (λ e. u (omega (arith, e), omega (arith, e))) ∙ sym (word_is m t k)

  same_part : (s k : ℕ) → (SEGMENTS + s * SEGMENT_WORDS + k ≡ 1472 → ⊥) → part (decode n) s k ≡ part (decode m) s k
  unfolding read address
  same_part s k u = part_word n s k ∙ other (SEGMENTS + s * SEGMENT_WORDS + k) u ∙ sym (part_word m s k)

  same_front : (a : ℕ) → a < 64 → load n a ≡ load m a
  same_front a l = other a (λ e. omega (arith, e, l))

  same_views : (t : ℕ) → drop 16 (record_of n t) ≡ drop 16 (record_of m t)
  unfolding record_of write address store
  same_views t =
      drop-drop 16 (TASKS + t * TASK_WORDS) (set m 1472 FINISHED)
      ∙ drop-set-lt (TASKS + t * TASK_WORDS + 16) m 1472 FINISHED (omega arith)
      ∙ sym (drop-drop 16 (TASKS + t * TASK_WORDS) m)

  same : ButTop (decode m) (decode n)
  unfolding read address
  same =
      record {
        length = same_front 0 (omega arith);
        number = same_front 1 (omega arith);
        few = r.sized.number_range.1;
        free =
            ap (λ (h : ℕ). take h (drop FREE_SEGMENTS n)) (same_front 2 (omega arith))
            ∙ stack (read m free_segments) 64 (let a = r.sized.free_height_lem in let b = r.sized.number_range.1 in omega (arith, a, b));
        idle =
            ap (λ (h : ℕ). take h (drop FREE_TASKS n)) (same_front 3 (omega arith))
            ∙ stack (read m free_tasks) 320 (let a = idle_height m r.linked.sized (idle_says (decode m) r.linked.idle).few in omega (arith, a));
        firsts = λ s l. same_part s 0 (λ e. omega (arith, e, l));
        counts = λ s. same_part s 1 (λ e. omega (arith, e));
        nexts = λ s. same_part s 2 (λ e. omega (arith, e));
        words = same_word;
        views = same_views;
      }

  pub finished_rules : rules_hold n ≡ true
  unfolding rules_hold
  finished_rules = ap test (scan_decodes n) ∙ says_test (decode n) (passed_but_top (decode m) (decode n) same top (passed m xs r))
    where
      top : top_test (decode n) ≡ true
      top =
          let t = top_says (decode m) r.linked.top in
          says_top (decode n)
          (record {
            status =
                inr (
                  word_is n 0 STATUS ∙ (unfold read address in status),
                  same_word 0 YOUNGEST (λ e. let z = e.1 in omega (arith, z)) ∙ word_is m 0 YOUNGEST
                      ∙ alone,
                );
            rights = same_word 0 RIGHTS (λ e. let z = e.1 in omega (arith, z)) ∙ t.rights;
            parent = same_word 0 PARENT (λ e. let z = e.1 in omega (arith, z)) ∙ t.parent;
            older = same_word 0 OLDER (λ e. let z = e.1 in omega (arith, z)) ∙ t.older;
            younger = same_word 0 YOUNGER (λ e. let z = e.1 in omega (arith, z)) ∙ t.younger;
          })
