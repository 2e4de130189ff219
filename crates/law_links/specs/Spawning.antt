-- A SPAWN in the words is the spawn of program order.
use Rattle.std.specs.Prelude.{◌≡◌, refl, true, ◌⊎◌, ℕ, ◌+◌, ◌<◌}
use Rattle.std.proofs.Math.Path.{ap, sym}
use Rattle.std.proofs.Common.{ap₂, ◌∙◌, inl, inr, ⊎_elim, arith}
use mathlib.Core.List.{List, [], ◌∷◌, ◌++◌, append_assoc, tail-eq_of_cons-eq}
use Rattle.spec_layout.specs.Layout.{STATUS, RIGHTS, PARENT, OLDER, YOUNGER, YOUNGEST, task, rights_of as rights_in, read, record_of}
use Rattle.spec_layout.proofs.Frame.{record_word}
use Rattle.spec_words.specs.Words.{load}
use Rattle.spec_lists.specs.Counting.{occurrences, occurs_append, occurs_first}
use Rattle.spec_tree.specs.Rights.{subset}
use Rattle.spec_tree.specs.Tour.{entered}
use Rattle.law_rules_tasks.specs.Holders.{entered_here, entered_past}
use Rattle.spec_order.specs.Steps.{Name, Task, Item, spot, task as task_of, spawns, name_of, number_of, rights_of, made}
use Rattle.spec_order.specs.Waits.{is_older}
use Rattle.law_order.specs.Items.{In}
use Rattle.law_order_waits.specs.Spots.{same_number, same_name, says_older}
use Rattle.law_order_waits.specs.Played.{Played, played_reached, kids_of, Like, child_of, Spawns}
use Rattle.law_order_waits.specs.Changes.{in_right, back, spawner}
use Rattle.law_order_waits.specs.Kinship.{kinship}
use Rattle.law_links.specs.Linked.{numbers_back, back_append, Linked, word_is, spot_unfinished}
use Rattle.law_links.specs.Places.{entered_append}
use Rattle.law_links.specs.Siblings.{On}
use Rattle.law_links.specs.Family.{on_older, on_child}
use Rattle.law_links.specs.Spawn.{Spawned, kept_word, AfterSpawn, after_spawn}
use Rattle.law_links.specs.SpawnRow.{new_row, new_first}
use Rattle.law_links.specs.SpawnStack.{new_many, top_is, idle_is}

back_spawn : (ys zs : List Item) (s : Task) (u r : ℕ)
    → numbers_back (ys ++ (made s (spawns u r) ++ zs)) ≡ numbers_back zs ++ number_of s ∷ u ∷ numbers_back ys
unfolding numbers_back made number_of
back_spawn ys zs (task_of p t q k) u r =
    back_append ys _
    ∙ ap (λ (l : List ℕ). l ++ numbers_back ys) (append_assoc (numbers_back zs) (t ∷ []) (u ∷ []))
    ∙ append_assoc (numbers_back zs) (t ∷ u ∷ []) (numbers_back ys)

module _ (m n : List ℕ) (T : List ℕ) (ys zs : List Item) (s : Task) (r u : ℕ) (play : Played (ys ++ spot s ∷ zs))
    (next : Played (ys ++ (made s (spawns u r) ++ zs)))
    (h : Linked m T (ys ++ spot s ∷ zs)) (w : Spawned m n (number_of s) r u) (b a : List ℕ) (here : T ≡ b ++ number_of s ∷ a)
    (later : entered b ≡ numbers_back zs) (earlier : entered a ≡ numbers_back ys) (sub : subset r (rights_in m (number_of s)) ≡ true) where
  abbrev t : ℕ
  t = number_of s

  abbrev Old : List Item
  Old = ys ++ spot s ∷ zs

  abbrev New : List Item
  New = ys ++ (made s (spawns u r) ++ zs)

  abbrev T' : List ℕ
  T' = b ++ t ∷ u ∷ (128 + u) ∷ a

  mine : In (spot s) Old
  mine = in_right (spot s) ys (spot s ∷ zs) (inl refl)

  small : t < 128
  small = (spot_unfinished m T Old h s mine).0

  stay : AfterSpawn m n t u
  stay =
      after_spawn m n t u r w T Old h small
      (let e = ap (occurrences t) here ∙ occurs_append t b (t ∷ a) in let f = occurs_first t a in omega (arith, e, f))

  below_child : u < 128
  below_child = stay.child_below

  spots_are : entered T' ≡ numbers_back New
  spots_are =
      entered_append b _
      ∙ ap₂ (λ (k l : List ℕ). k ++ l) later
      (entered_here t _ small ∙ ap (λ (l : List ℕ). t ∷ l) (entered_here u _ below_child ∙ ap (λ (l : List ℕ). u ∷ l) (entered_past (128 + u) a (omega arith) ∙ earlier)))
      ∙ sym (back_spawn ys zs s u r)

  -- a task of after: one of before, or the child
  abbrev Was : Task → Type 0
  Was o = (o' : Task) × In (spot o') Old × Like o o'

  abbrev IsChild : Task → Type 0
  IsChild o = (name_of o ≡ kids_of s ∷ name_of s) × (number_of o ≡ u) × (rights_of o ≡ r) × (kids_of o ≡ 0)

  child_is : (o : Task) → Spawns s (spawns u r) o → IsChild o
  unfolding child_of kids_of name_of number_of rights_of
  child_is o v =
      let e = v.2 in
      let f : u ≡ v.0 = cc in
      let g : r ≡ v.1 = cc in
      (ap name_of v.3, ap number_of v.3 ∙ sym f, ap rights_of v.3 ∙ sym g, ap kids_of v.3)

  which : (o : Task) → In (spot o) New → Was o ⊎ IsChild o
  which o i = ⊎_elim inl (λ v. inr (child_is o v)) (back ys zs s (spawns u r) o i)

  word_stays : (o : Task) (v : Was o) (k : ℕ) → k < 6 → (k ≡ YOUNGEST → ⊥) → (k ≡ YOUNGER → ⊥)
      → read n (task (number_of o) k) ≡ read m (task (number_of v.0) k)
  word_stays o v k l f g =
      ap (λ (x : ℕ). read n (task x k)) v.2.number
      ∙ kept_word m n t u stay (number_of v.0) k (spot_unfinished m T Old h v.0 v.1) l f g

  rights_are : (o : Task) → In (spot o) New → rights_in n (number_of o) ≡ rights_of o
  rights_are o i =
      ⊎_elim
      (λ v. word_stays o v RIGHTS (omega arith) (λ q. omega (arith, q)) (λ q. omega (arith, q)) ∙ h.rights v.0 v.1 ∙ sym v.2.rights)
      (λ v. ap (λ (x : ℕ). rights_in n x) v.1 ∙ w.rights ∙ sym v.2)
      (which o i)

  -- the child has no children yet
  no_children : (o c : Task) (k : ℕ) → In (spot o) New → In (spot c) New → IsChild o → name_of c ≡ k ∷ name_of o → ⊥
  no_children o c k i j v e = let l = (kinship next).below o c k i j e in let z = v.3 in omega (arith, l, z)

  parents_are : (o p : Task) (k : ℕ) → In (spot o) New → In (spot p) New → name_of o ≡ k ∷ name_of p → read n (task (number_of o) PARENT) ≡ number_of p
  parents_are o p k i j e =
      ⊎_elim
      (λ v.
      ⊎_elim
      (λ x.
      word_stays o v PARENT (omega arith) (λ q. omega (arith, q)) (λ q. omega (arith, q))
      ∙ h.parents v.0 x.0 k v.1 x.1 (sym v.2.name ∙ e ∙ ap (λ (y : Name). k ∷ y) x.2.name)
      ∙ sym x.2.number)
      (λ x. absurd (no_children p o k j i x e))
      (which p j))
      (λ v.
      let f : kids_of s ∷ name_of s ≡ k ∷ name_of p = sym v.0 ∙ e in
      let y = spawner ys zs s u r in
      let same = same_name New (played_reached next) p y.0 j y.1 (sym (tail-eq_of_cons-eq f) ∙ sym y.2.name) in
      ap (λ (x : ℕ). read n (task x PARENT)) v.1 ∙ w.parent ∙ sym (ap number_of same ∙ y.2.number))
      (which o i)

  ages_are : (o p : Task) → In (spot o) New → In (spot p) New → read n (task (number_of o) OLDER) ≡ number_of p → is_older (name_of p) (name_of o) ≡ true
  ages_are o p i j e =
      ⊎_elim
      (λ v.
      let f = sym (word_stays o v OLDER (omega arith) (λ q. omega (arith, q)) (λ q. omega (arith, q))) ∙ e in
      ⊎_elim
      (λ x. ap₂ is_older x.2.name v.2.name ∙ h.ages v.0 x.0 v.1 x.1 (f ∙ x.2.number))
      (λ x. absurd (not_new v.0 v.1 (f ∙ x.1)))
      (which p j))
      (λ v.
      let f : read m (task t YOUNGEST) ≡ number_of p = sym w.older_is ∙ ap (λ (x : ℕ). read n (task x OLDER)) (sym v.1) ∙ e in
      ⊎_elim
      (λ x. youngest_older o p v x f)
      (λ x. absurd (not_youngest (f ∙ x.1)))
      (which p j))
      (which o i)
    where
      -- nobody had the child's number
      nobody : (o : Task) → In (spot o) Old → number_of o ≡ u → ⊥
      nobody o i e = stay.apart (number_of o) (spot_unfinished m T Old h o i) e

      not_new : (o : Task) → In (spot o) Old → read m (task (number_of o) OLDER) ≡ u → ⊥
      not_new o i e =
          let v = on_older m T Old play h o _ u i refl
          (On.here {c = load (record_of m (number_of o)) OLDER} (let l = below_child in let f = record_word m (number_of o) OLDER in omega (arith, e, f, l))
          (record_word m (number_of o) OLDER ∙ e))
          in
          nobody v.0 v.1 v.2

      youngest_on : (x : ℕ) → x < 128 → read m (task t YOUNGEST) ≡ x → On (record_of m) (load (record_of m t) YOUNGEST) x
      youngest_on x l e = let f = record_word m t YOUNGEST in let k : load (record_of m t) YOUNGEST < 128 = omega (arith, e, f, l) in On.here k (f ∙ e)

      not_youngest : read m (task t YOUNGEST) ≡ u → ⊥
      not_youngest e = let v = on_child m T Old play h s u mine (youngest_on u below_child e) in nobody v.0 v.2 v.3

      youngest_older : (o p : Task) → IsChild o → Was p → read m (task t YOUNGEST) ≡ number_of p → is_older (name_of p) (name_of o) ≡ true
      youngest_older o p v x e =
          let q = x.0 in
          let f = e ∙ x.2.number in
          let l = (spot_unfinished m T Old h q x.1).0 in
          let y = on_child m T Old play h s (number_of q) mine (youngest_on (number_of q) l f) in
          let same = same_number Old (played_reached play) y.0 q y.2 x.1 y.3 in
          let named : name_of q ≡ y.1 ∷ name_of s = ap name_of (sym same) ∙ y.4 in
          ap₂ is_older (x.2.name ∙ named) v.0 ∙ says_older y.1 (kids_of s) (name_of s) ((kinship play).below s q y.1 mine x.1 named)

  pub spawn_linked : Linked n T' New
  spawn_linked =
      record {
        sized = w.sized;
        top = top_is m n T Old h t r u w stay b a here;
        idle = idle_is m n T Old h t r u w stay b a here;
        first = new_first m n T Old h t r u w stay b a here small sub;
        row = new_row m n T Old h t r u w stay b a here small sub;
        many = new_many m n T Old h t r u w stay b a here;
        running =
            kept_word m n t u stay 0 STATUS (omega arith, word_is m 0 STATUS ∙ h.running) (omega arith) (λ q. omega (arith, q)) (λ q. omega (arith, q))
            ∙ h.running;
        spots = spots_are;
        rights = rights_are;
        parents = parents_are;
        ages = ages_are;
      }
