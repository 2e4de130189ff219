-- THE TREE OF TASKS in the words m is the one of program order, xs; T is its tour.
use Rattle.std.specs.Prelude.{◌≡◌, refl, true, List, [], ◌∷◌, ◌++◌, ℕ, ◌-◌, ◌*◌, ◌<◌, length}
use Rattle.std.proofs.Common.{ap, sym, ◌∙◌, subst, append_assoc, append-nil, inl, inr, ⊎_elim, arith}
use Rattle.spec_words.specs.Words.{size}
use Rattle.spec_lists.specs.Counting.{occurrences, occurs_nil, occurs_here, occurs_past, occurs_append, equal?}
use Rattle.spec_layout.specs.Layout.{WORDS, STATUS, PARENT, OLDER, UNFINISHED, task, rights_of as rights_in, read, record_of}
use Rattle.spec_layout.proofs.Frame.{record_word}
use Rattle.spec_tree.specs.Tour.{MARKS, tour, entered}
use Rattle.spec_rules.specs.Contents.{Contents, decode, word, holders}
use Rattle.spec_rules.specs.Rules.{Unfinished, Holder, TaskRules}
use Rattle.spec_rules.specs.Test.{top_test, idle_test, tree_test}
use Rattle.law_rules_tasks.specs.Marks.{after_top}
use Rattle.law_rules_tasks.specs.Tested.{top_says}
use Rattle.law_rules_tasks.specs.Holders.{holder_once, holders_hold}
use Rattle.law_rules_tasks.specs.Tasks.{tasks_say, tour_whole, entered_holders}
use Rattle.spec_order.specs.Steps.{Task, Item, step, spot, name_of, number_of, rights_of}
use Rattle.spec_order.specs.Waits.{is_older}
use Rattle.law_order.specs.Items.{In}
use Rattle.law_links.specs.Row.{Row, row_tree, row_tour}

-- the numbers of the tasks whose spots stand in a list, the last first
unfoldable pub numbers_back : List Item → List ℕ
numbers_back [] = []
numbers_back (step p a ∷ xs) = numbers_back xs
numbers_back (spot s ∷ xs) = numbers_back xs ++ (number_of s ∷ [])

pub record Linked (m : List ℕ) (T : List ℕ) (xs : List Item) : Type 0 where
  pub sized : size m ≡ WORDS
  -- the rules of tasks, by their tests
  pub top : top_test (decode m) ≡ true
  pub idle : idle_test (decode m) ≡ true
  pub first : (l : List ℕ) × (T ≡ 0 ∷ l)
  pub row : Row (decode m) T
  pub many : length T ≡ 2 * (128 - length (decode m).idle)
  pub running : read m (task 0 STATUS) ≡ UNFINISHED
  -- the tasks that the tour meets are those with spots, in the same order
  pub spots : entered T ≡ numbers_back xs
  pub rights : (s : Task) → In (spot s) xs → rights_in m (number_of s) ≡ rights_of s
  -- links by names
  pub parents : (s o : Task) (k : ℕ) → In (spot s) xs → In (spot o) xs → name_of s ≡ k ∷ name_of o → read m (task (number_of s) PARENT) ≡ number_of o
  pub ages : (s o : Task) → In (spot s) xs → In (spot o) xs → read m (task (number_of s) OLDER) ≡ number_of o → is_older (name_of o) (name_of s) ≡ true

pub word_is : (m : List ℕ) (t k : ℕ) → word (decode m) t k ≡ read m (task t k)
unfolding word
word_is m t k = record_word m t k

pub back_append : (xs ys : List Item) → numbers_back (xs ++ ys) ≡ numbers_back ys ++ numbers_back xs
unfolding numbers_back
back_append [] ys = sym (append-nil (numbers_back ys))
back_append (step p a ∷ xs) ys = back_append xs ys
back_append (spot s ∷ xs) ys =
    ap (λ (l : List ℕ). l ++ (number_of s ∷ [])) (back_append xs ys) ∙ append_assoc (numbers_back ys) (numbers_back xs) (number_of s ∷ [])

-- a number among them is that of a spot
pub back_says : (t : ℕ) (xs : List Item) → 0 < occurrences t (numbers_back xs) → (s : Task) × In (spot s) xs × (number_of s ≡ t)
unfolding numbers_back
back_says t [] h = let a = occurs_nil t in let z : ⊥ = omega (arith, a, h) in absurd z
back_says t (step p a ∷ xs) h = let w = back_says t xs h in (w.0, inr w.1, w.2)
back_says t (spot s ∷ xs) h =
    ⊎_elim
    (λ e. (s, inl refl, e))
    (λ n.
    let a = occurs_append t (numbers_back xs) (number_of s ∷ []) in
    let b = occurs_past (number_of s) t [] n in
    let d = occurs_nil t in
    let w = back_says t xs (omega (arith, a, b, d, h)) in
    (w.0, inr w.1, w.2))
    (equal? (number_of s) t)

pub says_back : (s : Task) (xs : List Item) → In (spot s) xs → 0 < occurrences (number_of s) (numbers_back xs)
unfolding numbers_back
says_back s [] i = absurd i
says_back s (step p a ∷ xs) (inl e) = let z : ◌≡◌ {A = ℕ} 0 1 = cc in absurd (omega (arith, z))
says_back s (step p a ∷ xs) (inr i) = says_back s xs i
says_back s (spot o ∷ xs) (inl e) =
    let d : s ≡ o = cc in
    let a = occurs_append (number_of s) (numbers_back xs) (number_of o ∷ []) in
    let b = occurs_here (number_of o) (number_of s) [] (ap number_of (sym d)) in
    omega (arith, a, b)
says_back s (spot o ∷ xs) (inr i) =
    let a = occurs_append (number_of s) (numbers_back xs) (number_of o ∷ []) in
    let b = says_back s xs i in
    omega (arith, a, b)

module _ (m : List ℕ) (T : List ℕ) (xs : List Item) (h : Linked m T xs) where
  abbrev c : Contents
  c = decode m

  pub tree : tree_test c (2 * (128 - length c.idle)) 0 ≡ true
  tree =
      let l = h.first.0 in
      let e = h.first.1 in
      ap (λ (k : ℕ). tree_test c k 0) (sym h.many ∙ ap length e) ∙ row_tree c 0 l (subst (Row c) e h.row)

  pub rules : TaskRules c
  rules = tasks_say c h.top h.idle tree

  -- T is the tour
  pub tour_is : tour MARKS (record_of m) 0 ≡ T
  tour_is =
      let l = h.first.0 in
      let e = h.first.1 in
      let t = top_says c h.top in
      let n = h.many in
      let k = ap length e in
      row_tour c 256 0 l (after_top c t.parent t.older) (subst (Row c) e h.row) (omega (arith, n, k)) ∙ sym e

  -- it meets exactly the holders
  entered_is : (t : ℕ) → occurrences t (entered T) ≡ occurrences t (holders c)
  entered_is t =
      ap (λ (l : List ℕ). occurrences t (entered l)) (sym tour_is ∙ tour_whole c h.top h.idle tree) ∙ entered_holders c h.top h.idle tree t

  pub holder_unfinished : (t : ℕ) → Holder c t → Unfinished c t
  holder_unfinished t (inl e) = (omega (arith, e), ap (λ (x : ℕ). word c x STATUS) e ∙ word_is m 0 STATUS ∙ h.running)
  holder_unfinished t (inr u) = u

  -- a spot's task is unfinished, and an unfinished task has a spot
  pub spot_unfinished : (s : Task) → In (spot s) xs → Unfinished c (number_of s)
  spot_unfinished s i =
      let a = says_back s xs i in
      let b = ap (occurrences (number_of s)) h.spots in
      let d = entered_is (number_of s) in
      holder_unfinished (number_of s) (holders_hold c (number_of s) (omega (arith, a, b, d))).1

  pub unfinished_spot : (t : ℕ) → Unfinished c t → (s : Task) × In (spot s) xs × (number_of s ≡ t)
  unfinished_spot t u =
      let a = holder_once c t (inr u) in
      let b = ap (occurrences t) h.spots in
      let d = entered_is t in
      back_says t xs (omega (arith, a, b, d))
