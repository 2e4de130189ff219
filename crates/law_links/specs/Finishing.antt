-- A FINISH in the words is the finish of program order.
use Rattle.std.specs.Prelude.{◌≡◌, refl, true, false, List, ◌∷◌, ◌++◌, ℕ, ◌+◌, ◌<◌, ◌≤◌}
use Rattle.std.proofs.Common.{ap, ap₂, sym, ◌∙◌, inl, ⊎_elim, arith}
use Rattle.std.proofs.lemmas.Bool.{false≢true}
use Rattle.spec_lists.specs.Counting.{occurrences, occurs_append, occurs_here}
use Rattle.spec_layout.specs.Layout.{STATUS, RIGHTS, PARENT, OLDER, task, rights_of as rights_in, read}
use Rattle.spec_tree.specs.Tour.{entered}
use Rattle.spec_rules.specs.Contents.{decode}
use Rattle.spec_rules.specs.Rules.{Child}
use Rattle.spec_order.specs.Steps.{Name, Task, Item, spot, task as task_of, finishes, name_of, number_of, rights_of, made}
use Rattle.spec_order.specs.Waits.{is_older, has_child}
use Rattle.law_order.specs.Items.{In}
use Rattle.law_order_waits.specs.Spots.{same_number}
use Rattle.law_order_waits.specs.Played.{Played, played_reached, Like}
use Rattle.law_order_waits.specs.Changes.{in_right, back}
use Rattle.law_order_waits.specs.Kinship.{says_child_there}
use Rattle.law_order_waits.specs.Gone.{gone}
use Rattle.law_links.specs.Linked.{numbers_back, back_append, Linked, spot_unfinished}
use Rattle.law_links.specs.Places.{entered_append}
use Rattle.law_links.specs.Family.{link_child, older_trans}
use Rattle.law_links.specs.Finish.{Finished, cut_word, AfterFinish, after_finish}
use Rattle.law_links.specs.FinishRow.{cut_row, cut_first}
use Rattle.law_links.specs.FinishStack.{cut_top, cut_idle, cut_many}

back_finish : (ys zs : List Item) (s : Task) → numbers_back (ys ++ (made s finishes ++ zs)) ≡ numbers_back zs ++ numbers_back ys
unfolding numbers_back made
back_finish ys zs (task_of p t q k) = back_append ys _

module _ (m n : List ℕ) (T : List ℕ) (ys zs : List Item) (s : Task) (play : Played (ys ++ spot s ∷ zs)) (next : Played (ys ++ (made s finishes ++ zs)))
    (h : Linked m T (ys ++ spot s ∷ zs)) (w : Finished m n (number_of s)) (b a : List ℕ) (here : T ≡ b ++ number_of s ∷ (128 + number_of s) ∷ a)
    (later : entered b ≡ numbers_back zs) (earlier : entered a ≡ numbers_back ys) (above : 0 < number_of s)
    (none : has_child (number_of s) (ys ++ spot s ∷ zs) ≡ false) where
  abbrev t : ℕ
  t = number_of s

  abbrev Old : List Item
  Old = ys ++ spot s ∷ zs

  abbrev New : List Item
  New = ys ++ (made s finishes ++ zs)

  mine : In (spot s) Old
  mine = in_right (spot s) ys (spot s ∷ zs) (inl refl)

  small : t < 128
  small = (spot_unfinished m T Old h s mine).0

  stay : AfterFinish m n t
  stay =
      after_finish m n t w T Old h small above
      (let e = ap (occurrences t) here ∙ occurs_append t b (t ∷ (128 + t) ∷ a) in
      let f = occurs_here t t ((128 + t) ∷ a) refl in
      omega (arith, e, f))

  barren : (z : ℕ) → Child (decode m) t z → ⊥
  barren z v =
      let k = link_child m T Old play h t z v in
      let e = same_number Old (played_reached play) k.1 s k.4 mine k.6 in
      false≢true (sym none ∙ says_child_there Old (played_reached play) s k.0 k.2 mine k.3 (k.7 ∙ ap (λ (x : Task). k.2 ∷ name_of x) e))

  -- a task of after is one of before
  was : (o : Task) → In (spot o) New → (o' : Task) × In (spot o') Old × Like o o'
  was o i = ⊎_elim (λ v. v) (λ v. let e = v.2 in let z : ◌≡◌ {A = ℕ} 0 1 = cc in absurd (omega (arith, z))) (back ys zs s finishes o i)

  stays : (o : Task) (v : (o' : Task) × In (spot o') Old × Like o o') → In (spot o) New → (k : ℕ) → k ≤ 2
      → read n (task (number_of o) k) ≡ read m (task (number_of v.0) k)
  stays o v i k l =
      ap (λ (x : ℕ). read n (task x k)) v.2.number
      ∙ cut_word m n t stay (number_of v.0) k (spot_unfinished m T Old h v.0 v.1).0 l (λ e. gone ys zs s play o i (v.2.number ∙ e))

  rights_are : (o : Task) → In (spot o) New → rights_in n (number_of o) ≡ rights_of o
  rights_are o i = let v = was o i in stays o v i RIGHTS (omega arith) ∙ h.rights v.0 v.1 ∙ sym v.2.rights

  parents_are : (o p : Task) (k : ℕ) → In (spot o) New → In (spot p) New → name_of o ≡ k ∷ name_of p → read n (task (number_of o) PARENT) ≡ number_of p
  parents_are o p k i j e =
      let v = was o i in
      let x = was p j in
      stays o v i PARENT (omega arith)
      ∙ h.parents v.0 x.0 k v.1 x.1 (sym v.2.name ∙ e ∙ ap (λ (y : Name). k ∷ y) x.2.name)
      ∙ sym x.2.number

  ages_are : (o p : Task) → In (spot o) New → In (spot p) New → read n (task (number_of o) OLDER) ≡ number_of p → is_older (name_of p) (name_of o) ≡ true
  ages_are o p i j e =
      let v = was o i in
      let x = was p j in
      let f = ap (λ (y : ℕ). read n (task y OLDER)) (sym v.2.number) ∙ e ∙ x.2.number in
      ap₂ is_older x.2.name v.2.name
      ∙ ⊎_elim
      (λ g. h.ages v.0 x.0 v.1 x.1 (sym g ∙ f))
      (λ g.
      older_trans (name_of x.0) (name_of s) (name_of v.0) (h.ages s x.0 mine x.1 (sym g.1 ∙ f)) (h.ages v.0 s v.1 mine g.0))
      (stay.older_now (number_of v.0) (spot_unfinished m T Old h v.0 v.1).0 (λ q. gone ys zs s play o i (v.2.number ∙ q)))

  pub finish_linked : Linked n (b ++ a) New
  finish_linked =
      record {
        sized = w.sized;
        top = cut_top m n T Old h t w stay b a here small above;
        idle = cut_idle m n T Old h t w stay b a here small above;
        first = cut_first m n T Old h t w stay b a here small above barren;
        row = cut_row m n T Old h t w stay b a here small above barren;
        many = cut_many m n T Old h t w stay b a here small above;
        running = cut_word m n t stay 0 STATUS (omega arith) (omega arith) (λ e. omega (arith, e, above)) ∙ h.running;
        spots = entered_append b a ∙ ap₂ (λ (k l : List ℕ). k ++ l) later earlier ∙ sym (back_finish ys zs s);
        rights = rights_are;
        parents = parents_are;
        ages = ages_are;
      }
