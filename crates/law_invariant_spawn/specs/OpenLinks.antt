-- THE TREE OF A NEW CORE: the top alone, and 127 free task records.
use Rattle.std.proofs.Math.Path.{◌≡◌, ap, sym}
use Rattle.std.specs.Prelude.{refl, true, ℕ, zero, suc, ◌+◌, ◌-◌, ◌*◌, ◌<◌, ◌≤◌, length, replicate, drop, take}
use Rattle.std.proofs.Common.{◌∙◌, subst, inr, ⊎_elim, eq-zero-or-pos, leb-true}
use mathlib.Core.List.{List, [], ◌∷◌}
use Rattle.std.proofs.Math.Logic.{inl}
use native.Mathlib.Omega.{arith}
use Rattle.std.proofs.Math.ListN.{length-replicate}
use Rattle.spec_words.specs.Words.{load, size, pick, both_true}
use Rattle.spec_words.specs.Blocks.{store_all, size_store_all, block_same}
use Rattle.spec_lists.specs.Counting.{occurrences, occurs_nil, occurs_here, occurs_past, occurs_append, equal?}
use Rattle.spec_layout.specs.Layout.{WORDS, FREE_TASKS, STATUS, RIGHTS, PARENT, OLDER, YOUNGER, YOUNGEST, free_tasks, free_segment, free_task, task}
use Rattle.spec_layout.specs.Layout.{rights_of as rights_in, address, read}
use Rattle.spec_tree.specs.Tour.{entered}
use Rattle.spec_rules.specs.Contents.{Contents, decode, word}
use Rattle.spec_rules.specs.Test.{within, in_range}
use Rattle.law_rules_tasks.specs.Tested.{Top, Idle, says_top, says_idle}
use Rattle.spec_outcomes.specs.Open.{down, empty_segment, top_links, top_views, stacked, segmented, topped, opened}
use Rattle.spec_order.specs.Steps.{Task, spot, task as task_of, name_of, number_of, rights_of, begin}
use Rattle.law_order.specs.Items.{In}
use Rattle.law_links.specs.Row.{childless}
use Rattle.law_links.specs.Linked.{numbers_back, Linked, word_is}
use Rattle.law_links.specs.Idle.{idle_length, idle_last}
use Rattle.law_maps.specs.Records.{record_same, record_other}
use Rattle.law_maps.specs.OpenWords.{down_length, down_at, opened_core, size_core, core_free, before, size_stacked}

-- the three parts of the range of an opening
pub in_range_lem : (l n : ℕ) → in_range l n ≡ true → (1 ≤ l) × (l ≤ 64) × (4 ≤ n) × (n ≤ 256) × (l * n ≤ 8192)
unfolding in_range within
in_range_lem l n e =
    let a = both_true _ _ e in
    let b = both_true _ _ a.0 in
    let c = both_true _ _ a.1 in
    let d = both_true _ _ c.0 in
    (leb-true _ _ b.0, leb-true _ _ b.1, leb-true _ _ d.0, leb-true _ _ d.1, leb-true _ _ c.1)

module _ (l n : ℕ) (hn : 4 ≤ n) (hn' : n ≤ 256) where
  abbrev m : List ℕ
  m = opened l n

  abbrev headed : List ℕ
  headed = store_all (replicate WORDS 0) 0 (l ∷ n ∷ (n - 4) ∷ 127 ∷ [])

  abbrev stacked1 : List ℕ
  stacked1 = store_all headed (address (free_segment 0)) (down (n - 4) (n - 1))

  pub opened_sized : size m ≡ WORDS
  opened_sized = ap size (opened_core l n hn hn') ∙ size_core l n hn hn'

  -- A WORD in front of the segments: of the header or of the stacks
  front : (b : ℕ) → b < 448 → load m b ≡ load (stacked n headed) b
  unfolding opened topped segmented address
  front b h =
      before _ 1488 top_views b (omega (arith, h))
      ∙ before _ 1472 top_links b (omega (arith, h))
      ∙ before _ 460 empty_segment b (omega (arith, h))
      ∙ before _ 456 empty_segment b (omega (arith, h))
      ∙ before _ 452 empty_segment b (omega (arith, h))
      ∙ before _ 448 empty_segment b h

  -- the stack of free task records: how many there are, and each of them
  pub idle_many : read m free_tasks ≡ 127
  unfolding read address stacked load
  idle_many =
      front 3 (omega arith)
      ∙ before stacked1 320 (down 127 127) 3 (omega arith)
      ∙ before headed 64 (down (n - 4) (n - 1)) 3 (omega arith)
      ∙ block_same (l ∷ n ∷ (n - 4) ∷ 127 ∷ []) (replicate WORDS 0) 0 3 (omega arith)
      (let e = length-replicate {A = ℕ} WORDS 0 in unfold size in omega (arith, e))

  pub idle_at : (i : ℕ) → i < 127 → read m (free_task i) ≡ 127 - i
  unfolding read address stacked
  idle_at i h =
      front (320 + i) (omega (arith, h))
      ∙ block_same (down 127 127) stacked1 320 i (let e = down_length 127 127 in omega (arith, e, h))
      (let e = down_length 127 127 in let s = size_stacked l n hn hn' in omega (arith, e, s))
      ∙ down_at 127 127 i h

  -- THE LINKS of the top, and the free records
  pub top_link : (k : ℕ) → k < 6 → read m (task 0 k) ≡ load top_links k
  unfolding opened topped
  top_link k h =
      record_other _ 0 16 top_views (omega arith) (omega arith) 0 k (omega (arith, h)) (λ e a b. omega (arith, a, h))
      ∙ ap (λ (i : ℕ). read (store_all (segmented (stacked n headed)) (address (task 0 0)) top_links) (task 0 i)) (let z : k ≡ 0 + k = omega arith in z)
      ∙ record_same (segmented (stacked n headed)) 0 0 top_links (omega arith) (omega arith) below k h
    where
      below : size (segmented (stacked n headed)) ≡ WORDS
      below = sym (size_store_all _ (address (task 0 16)) top_views ∙ size_store_all _ (address (task 0 0)) top_links) ∙ opened_sized

  pub free_status : (t : ℕ) → (t ≡ 0 → ⊥) → t < 128 → read m (task t STATUS) ≡ 0
  free_status t d h = ap (λ (k : List ℕ). read k (task t STATUS)) (opened_core l n hn hn') ∙ core_free l n hn hn' t STATUS d h (omega arith)

  abbrev c : Contents
  c = decode m

  -- The lowest j places of the stack have the numbers above 127 - j, each once.
  low_places : (j : ℕ) → j ≤ 127 → (x : ℕ)
      → (0 < occurrences x (take j (drop FREE_TASKS m)) → (127 < x + j) × (x ≤ 127)) × (occurrences x (take j (drop FREE_TASKS m)) ≤ 1)
  low_places zero h x = let a = occurs_nil x in ((λ p. let z : ⊥ = omega (arith, a, p) in absurd z), omega (arith, a))
  low_places (suc j) h x =
      let w = low_places j (omega (arith, h)) x in
      let e = ap (occurrences x) (idle_last m opened_sized j (omega (arith, h))) ∙ occurs_append x (take j (drop FREE_TASKS m)) (read m (free_task j) ∷ []) in
      let f = idle_at j (omega (arith, h)) in
      let o = occurs_nil x in
      ⊎_elim
      (λ q.
      let g = occurs_here (read m (free_task j)) x [] q in
      let none : occurrences x (take j (drop FREE_TASKS m)) ≡ 0 = ⊎_elim (λ z. z) (λ p. let v = (w.0 p).0 in let z : ⊥ = omega (arith, v, q, f, h) in absurd z)
      (eq-zero-or-pos _) in
      ((λ p. (omega (arith, q, f, h), omega (arith, q, f))), omega (arith, e, g, o, none)))
      (λ q.
      let g = occurs_past (read m (free_task j)) x [] q in
      let one = w.1 in
      ((λ p. let v = w.0 (omega (arith, e, g, o, p)) in let a = v.0 in let b = v.1 in (omega (arith, a), b)), omega (arith, e, g, o, one)))
      (equal? (read m (free_task j)) x)

  idle_is : c.idle ≡ take 127 (drop FREE_TASKS m)
  idle_is = ap (λ (k : ℕ). take k (drop FREE_TASKS m)) idle_many

  idle_long : length c.idle ≡ 127
  idle_long = let e = idle_many in idle_length m opened_sized (omega (arith, e)) ∙ e

  idle_member : (x : ℕ) → 0 < occurrences x c.idle → (0 < x) × (x ≤ 127)
  idle_member x p =
      let w = (low_places 127 (omega arith) x).0 (subst (λ (k : List ℕ). 0 < occurrences x k) idle_is p) in
      let a = w.0 in
      (omega (arith, a), w.1)

  idle_new : Idle c
  idle_new =
      record {
        few = let e = idle_long in omega (arith, e);
        apart = record {
          below = λ x p. let b = (idle_member x p).1 in omega (arith, b);
          once = λ x. subst (λ (k : List ℕ). occurrences x k ≤ 1) (sym idle_is) (low_places 127 (omega arith) x).1;
        };
        above = λ x p. (idle_member x p).0;
        free =
            λ x p. let w = idle_member x p in let a = w.0 in let b = w.1 in word_is m x STATUS ∙ free_status x (λ e. omega (arith, e, a)) (omega (arith, b));
      }

  top_word : (k : ℕ) → k < 6 → word c 0 k ≡ load top_links k
  top_word k h = word_is m 0 k ∙ top_link k h

  top_new : Top c
  unfolding load
  top_new =
      record {
        status = inl (top_word STATUS (omega arith));
        rights = top_word RIGHTS (omega arith);
        parent = top_word PARENT (omega arith);
        older = top_word OLDER (omega arith);
        younger = top_word YOUNGER (omega arith);
      }

  -- the top is the only task with a spot
  top_only : (s : Task) → In (spot s) begin → s ≡ task_of [] 0 255 0
  unfolding begin
  top_only s (inl e) = cc
  top_only s (inr i) = absurd i

  pub core_linked : Linked m (0 ∷ 128 ∷ []) begin
  unfolding load entered numbers_back begin number_of rights_of name_of
  core_linked =
      record {
        sized = opened_sized;
        top = says_top c top_new;
        idle = says_idle c idle_new;
        first = (128 ∷ [], refl);
        row = (childless {t = 0} (omega arith) (top_word YOUNGEST (omega arith)), refl);
        many = let e = idle_long in omega (arith, e);
        running = top_link STATUS (omega arith);
        spots = unfold pick in refl;
        rights = λ s i.
            let e = top_only s i in
            ap (λ (o : Task). rights_in m (number_of o)) e ∙ top_link RIGHTS (omega arith) ∙ ap rights_of (sym e);
        parents = λ s o k i j e.
            let f : [] ≡ k ∷ name_of o = ap name_of (sym (top_only s i)) ∙ e in
            let z : ◌≡◌ {A = ℕ} 0 1 = cc in
            absurd (omega (arith, z));
        ages = λ s o i j e.
            let a = ap number_of (top_only o j) in
            let b = ap (λ (x : Task). read m (task (number_of x) OLDER)) (top_only s i) in
            let d = top_link OLDER (omega arith) in
            let z : ⊥ = omega (arith, a, b, d, e) in
            absurd z;
      }

-- THE TREE, for any length and number of segments in range
pub open_linked : (l n : ℕ) → in_range l n ≡ true → Linked (opened l n) (0 ∷ 128 ∷ []) begin
open_linked l n e = let h = in_range_lem l n e in core_linked l n h.2 h.3
