-- THE CHILD OF A SPAWN: its record was free, so its number is new; the words after the spawn have its links and its rights.
use Rattle.std.specs.Prelude.{◌≡◌, refl, Bool, true, List, [], ◌∷◌, ◌++◌, ◌⊎◌, ℕ, suc, ◌+◌, ◌-◌, ◌<◌, ◌≤◌, ltb, eqb, drop, take}
use Rattle.std.proofs.Math.Path.{ap}
use Rattle.std.proofs.Common.{sym, ◌∙◌, subst, inl, inr, ⊎_elim, eq-zero-or-pos, arith, eq-eqb, lt-ltb, ltb-true}
use Rattle.std.proofs.Math.Bool.{false, not}
use Rattle.spec_words.specs.Words.{both, both_on, both_right_off, true_both}
use Rattle.spec_lists.specs.Counting.{occurrences, occurs_here, occurs_append, occurs_first}
use Rattle.spec_layout.specs.Layout.{NONE, FREE_TASKS, STATUS, RIGHTS, YOUNGEST, FREE, number_word, free_tasks, free_task, task, rights_of as rights_in}
use Rattle.spec_layout.specs.Layout.{address, read, write}
use Rattle.spec_tree.specs.Rights.{uses, subset}
use Rattle.spec_rules.specs.Contents.{Contents, decode, word}
use Rattle.spec_rules.specs.Rules.{Unfinished}
use Rattle.law_rules_tasks.specs.Tested.{Idle, idle_says}
use Rattle.spec_outcomes.specs.Spawn.{child_made}
use Rattle.spec_order.specs.Steps.{Task, Item, spot, spawns, number_of, rights_of, made, advance}
use Rattle.spec_order.specs.Waits.{unfinished, blocked}
use Rattle.law_order.specs.Reached.{Fresh}
use Rattle.law_order.specs.Numbers.{advance_at}
use Rattle.law_order_waits.specs.Spots.{unfinished_says, says_unfinished, rights_at_lem}
use Rattle.law_order_waits.specs.Played.{Asked, Played, plays, played_reached}
use Rattle.spec_lists.specs.Maps.{put}
use Rattle.law_links.specs.Linked.{Linked, word_is, rules, spot_unfinished}
use Rattle.law_links.specs.Idle.{idle_height, idle_last}
use Rattle.law_links.specs.Places.{Place}
use Rattle.law_links.specs.Spawn.{Spawned, unmarked}
use Rattle.law_links.specs.SpawnWords.{spawn_words}
use Rattle.law_links.specs.Spawning.{spawn_linked}
use Rattle.law_maps.specs.Meaning.{Meaning, meaning_of}
use Rattle.law_maps.specs.Kept.{Means, read_away}
use Rattle.law_maps.specs.Maps.{put_path}
use Rattle.law_maps.specs.Reads.{pick_path}
use Rattle.law_maps.specs.TasksOnly.{idle_height_only}
use Rattle.law_maps.specs.Tree.{idle_height_written, links_mean}
use Rattle.law_maps.specs.SpawnWords.{made_only}
use Rattle.law_maps.specs.Spawn.{spawned_in, child_made_lem}
use Rattle.law_invariant.specs.Represents.{alive, uses_in, Represents}
use Rattle.law_invariant.specs.At.{mine_spot, task_unfinished, single_spot, where_it_stands}

module _ (m : List ℕ) (ys zs : List Item) (s : Task) (r : Represents m (ys ++ spot s ∷ zs)) (u : ℕ) (sub : subset u (rights_of s) ≡ true)
    (some : read m free_tasks ≡ 0 → ⊥) where
  abbrev t : ℕ
  t = number_of s

  abbrev Old : List Item
  Old = ys ++ spot s ∷ zs

  abbrev h : ℕ
  h = read m free_tasks - 1

  -- the record used next
  abbrev pub child : ℕ
  child = read m (free_task h)

  -- the words after the spawn
  abbrev pub after : List ℕ
  after = child_made (write m free_tasks h) t u child

  abbrev pub New : List Item
  New = advance t (spawns child u) Old

  abbrev k : Contents
  k = decode m

  free : Idle k
  free = idle_says k r.linked.idle

  small : t < 128
  small = (task_unfinished m ys zs s r).0

  some_free : 0 < read m free_tasks
  some_free = ⊎_elim (λ e. absurd (some e)) (λ p. p) (eq-zero-or-pos (read m free_tasks))

  few_free : read m free_tasks ≤ 127
  few_free = idle_height m r.linked.sized free.few

  -- it stands on the stack of free records
  among : 0 < occurrences child k.idle
  among =
      let a = some_free in
      let b = few_free in
      let e = ap (λ (x : ℕ). occurrences child (take x (drop FREE_TASKS m))) (let z : read m free_tasks ≡ suc h = omega (arith, a) in z) in
      let f = ap (occurrences child) (idle_last m r.linked.sized h (omega (arith, b))) in
      let g = occurs_append child (take h (drop FREE_TASKS m)) (child ∷ []) in
      let i = occurs_here child child [] refl in
      omega (arith, e, f, g, i)

  pub child_small : child < 128
  child_small = free.apart.below child among

  was_free : word k child STATUS ≡ FREE
  was_free = free.free child among

  pub not_child : (x : ℕ) → Unfinished k x → x ≡ child → ⊥
  not_child x v e = let a = v.1 in let b = ap (λ (y : ℕ). word k y STATUS) e in let d = was_free in omega (arith, a, b, d)

  -- THE NUMBER IS NEW.
  pub fresh_number : unfinished child Old ≡ false
  fresh_number = go (unfinished child Old) refl
    where
      go : (b : Bool) → unfinished child Old ≡ b → unfinished child Old ≡ false
      go false e = e
      go true e =
          let w = unfinished_says Old (played_reached r.played) child e in
          absurd (not_child (number_of w.0) (spot_unfinished m r.tour Old r.linked w.0 w.1) w.2)

  -- the youngest child of before is a task
  youngest_was : (read m (task t YOUNGEST) ≡ NONE) ⊎ Unfinished k (read m (task t YOUNGEST))
  youngest_was =
      let e = word_is m t YOUNGEST in
      ⊎_elim
      (λ d. inl (sym e ∙ d))
      (λ v. inr (subst (Unfinished k) e v.0.1.0))
      ((rules m r.tour Old r.linked).youngest_linked t (inr (task_unfinished m ys zs s r)))

  not_youngest : read m (task t YOUNGEST) ≡ child → ⊥
  not_youngest e = ⊎_elim (λ d. let l = child_small in omega (arith, d, e, l)) (λ v. not_child (read m (task t YOUNGEST)) v e) youngest_was

  -- THE TREE
  pub words : Spawned m after t u child
  words =
      spawn_words m r.linked.sized t u child small some_free few_free refl child_small (not_child t (task_unfinished m ys zs s r)) not_youngest
      (⊎_elim inl (λ v. inr v.0) youngest_was)

  abbrev stands : Place m r.tour ys zs s
  stands = where_it_stands m ys zs s r

  -- the marks of the tour: the child is entered and exited just behind its spawner
  abbrev pub new_tour : List ℕ
  new_tour = stands.later ++ t ∷ child ∷ (128 + child) ∷ stands.earlier

  sub_word : subset u (rights_in m t) ≡ true
  sub_word = ap (subset u) (r.linked.rights s (mine_spot m ys zs s r)) ∙ sub

  pub child_unmarked : (occurrences child r.tour ≡ 0) × (occurrences (128 + child) r.tour ≡ 0)
  child_unmarked = unmarked m after t child u words r.tour Old r.linked small
      (let e = ap (occurrences t) stands.here ∙ occurs_append t stands.later (t ∷ stands.earlier) in
      let f = occurs_first t stands.earlier in omega (arith, e, f))

  pub new_is : New ≡ ys ++ (made s (spawns child u) ++ zs)
  new_is = advance_at ys zs s (spawns child u) (single_spot m ys zs s r)

  pub new_linked : Played New → Linked after new_tour New
  new_linked play =
      subst (Linked after new_tour) (sym new_is)
      (spawn_linked m after r.tour ys zs s u child r.played (subst Played new_is play) r.linked words stands.later stands.earlier stands.here
      stands.entered_later stands.entered_earlier sub_word)

  -- a step that the waits and the rights allow
  pub new_played : blocked t Old ≡ false → Played New
  unfolding Fresh Asked
  new_played b =
      plays t (spawns child u) r.played (says_unfinished Old s (mine_spot m ys zs s r)) fresh_number b
      (ap (subset u) (rights_at_lem Old (played_reached r.played) s (mine_spot m ys zs s r)) ∙ sub)

  -- WHAT THE WORDS MEAN
  was_meant : Means (write m free_tasks h) (meaning_of m)
  was_meant = links_mean r.sized (idle_height_written m h)

  tree_behind : (x j : ℕ) → read (write m free_tasks h) (task x j) ≡ read m (task x j)
  unfolding address
  tree_behind x j = read_away m free_tasks (task x j) h (λ e. omega (arith, e))

  youngest_task : (read (write m free_tasks h) (task t YOUNGEST) ≡ NONE → ⊥) → read (write m free_tasks h) (task t YOUNGEST) < 128
  youngest_task n =
      let e = tree_behind t YOUNGEST in
      ⊎_elim (λ d. absurd (n (e ∙ d))) (λ v. let l = v.0 in omega (arith, e, l)) youngest_was

  apart : child ≡ t → ⊥
  apart e = not_child t (task_unfinished m ys zs s r) (sym e)

  pub means : Means after (spawned_in (meaning_of m) t u child)
  means =
      subst (λ (M : Meaning). Means after (spawned_in M t u child)) was_meant.means
      (child_made_lem (write m free_tasks h) t u child was_meant.sized small child_small apart youngest_task)

  pub same_number : read after number_word ≡ read m number_word
  same_number =
      (made_only (write m free_tasks h) t u child was_meant.sized.words small child_small apart youngest_task).same number_word
      (omega arith, λ e. omega (arith, e))
      ∙ (idle_height_only m h).same number_word (omega arith, λ e. omega (arith, e))

  -- WHO IS IN USE, and who has a right: as before, and the child besides
  other_word : (x j : ℕ) → x < 128 → j < 2 → (x ≡ child → ⊥) → read after (task x j) ≡ read m (task x j)
  other_word x j l i n = words.others x j l (omega (arith, i)) n (λ e. let d = e.1 in omega (arith, d, i)) (λ e. let d = e.1 in omega (arith, d, i))

  pub child_idle : alive m child ≡ false
  unfolding alive
  child_idle = both_right_off (ltb child 128) (ap not (eq-eqb _ FREE (sym (word_is m child STATUS) ∙ was_free)))

  pub new_alive : alive after ≡ put (alive m) child true
  new_alive = put_path (alive m) (alive after) child true there others
    where
      there : alive after child ≡ true
      there = unfold alive in true_both (lt-ltb child 128 child_small) (ap (λ (x : ℕ). not (eqb x FREE)) words.status)

      others : (x : ℕ) → (x ≡ child → ⊥) → alive after x ≡ alive m x
      others x n =
          unfold alive both in
          pick_path (ltb x 128) _ _ false (λ e. ap (λ (y : ℕ). not (eqb y FREE)) (other_word x STATUS (ltb-true x 128 e) (omega arith) n))

  pub new_uses : (q : ℕ) → uses_in after q ≡ put (uses_in m q) child (uses u q)
  new_uses q = put_path (uses_in m q) (uses_in after q) child (uses u q) there others
    where
      there : uses_in after q child ≡ uses u q
      there = unfold uses_in in both_on (lt-ltb child 128 child_small) ∙ ap (λ (x : ℕ). uses x q) words.rights

      others : (x : ℕ) → (x ≡ child → ⊥) → uses_in after q x ≡ uses_in m q x
      others x n =
          unfold uses_in both in
          pick_path (ltb x 128) _ _ false (λ e. ap (λ (y : ℕ). uses y q) (other_word x RIGHTS (ltb-true x 128 e) (omega arith) n))
