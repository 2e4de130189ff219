-- FINISH, THE FIRST TWO REDUCTIONS of a queue's turn: children, user and right view of the task, by the words.
use Rattle.std.specs.Prelude.{◌≡◌, true}
use Rattle.std.proofs.Math.Path.{refl, ap}
use Rattle.std.proofs.Common.{ap₂, sym, ◌∙◌, subst, subst₂, arith}
use Rattle.std.proofs.Math.Option.{some, some-injective}
use mathlib.Core.List.{List, [], ◌∷◌, ◌++◌}
use Prim.Native.Nat.{ℕ, ◌<◌}
use Rattle.std.proofs.Math.ListN.{length}
use Rattle.spec_lists.specs.Counting.{occurrences}
use Rattle.spec_layout.specs.Layout.{NONE, CHILDREN, USER, RIGHT}
use Rattle.spec_rules.specs.Contents.{decode}
use Rattle.spec_rules.specs.Rules.{Unfinished}
use Rattle.spec_order.specs.Steps.{Task, Item, spot, number_of}
use Rattle.law_order_waits.specs.Popper.{first_popper}
use Rattle.law_gaps.specs.Line.{Extent, vacant, exited, entered, Line, segments, first_chain}
use Rattle.law_gaps.specs.Store.{Store, Memory, Laid}
use Rattle.law_gaps.specs.Moves.{reduced, joined, returned}
use Rattle.law_gaps.proofs.Pool.{mine}
use Rattle.law_links.specs.Frame.{keeps_linked}
use Rattle.law_maps.specs.Meaning.{Meaning, meaning_of, store_of, contents_in, free_in, view_in}
use Rattle.law_maps.specs.Update.{with_store, with_view, store_self}
use Rattle.law_maps.specs.Kept.{Kept, Becomes}
use Rattle.law_maps.specs.Links.{Linkable}
use Rattle.law_maps.specs.Reduce.{Links, Tailed, merged_in, view_merged}
use Rattle.law_maps.specs.Merges.{inner, whole}
use Rattle.law_maps.specs.Finish.{words1, Reduces}
use Rattle.law_invariant.specs.Represents.{alive, of_tasks, queue_memory, Represents, opened}
use Rattle.law_invariant.specs.Parts.{parts_of, opened_single}
use Rattle.law_invariant.specs.Plain.{same_links}
use Rattle.law_invariant.specs.FirstNamed.{holder_unfinished, task_there}
use Rattle.law_invariant.specs.At.{mine_spot, task_unfinished}
use Rattle.law_invariant.specs.Views.{children_word, user_word, right_word}
use Rattle.law_invariant.specs.Covered.{Covered}
use Rattle.law_invariant.specs.FirstNames.{first_names}
use Rattle.law_invariant.specs.Naming.{Names, names_view, names_by}
use Rattle.law_invariant_finish.specs.Way.{Way}
use Rattle.law_invariant_finish.specs.Meets.{Meets, Apart, Tails, Headless, meets_links, apart_joined, tails_tailed, headless_not, vacant_not}
use Rattle.law_invariant_finish.specs.Reductions.{Link, Leaving, leaving_views}
use Rattle.law_invariant_finish.specs.Queue.{way_linked, spot_alive, single, held_below, held_local, room, holder_alive, unfinished_live}

module _ (m : List ℕ) (ys zs : List Item) (s : Task) (r : Represents m (ys ++ spot s ∷ zs))
    (n : List ℕ) (holder : ℕ → ℕ) (line : ℕ → Line) (way : Way m n holder line) (covered : (p : ℕ) → p < 4 → Covered (queue_memory n p) r.tour (line p))
    (q : ℕ) (small : q < 4) (first : first_popper q (ys ++ spot s ∷ zs) ≡ some (holder q))
    (b : Line) (c : List ℕ) (a : Line) (parts : line q ≡ b ++ (entered (number_of s) c ∷ (exited (number_of s) ∷ a))) where
  abbrev t : ℕ
  t = number_of s

  abbrev Old : List Item
  Old = ys ++ spot s ∷ zs

  abbrev h : ℕ
  h = holder q

  abbrev M : Meaning
  M = meaning_of n

  abbrev Q : Memory
  Q = queue_memory n q

  abbrev own : ℕ → ℕ
  own = mine Q.store (line q)

  abbrev Line-t : Line
  Line-t = b ++ (entered t c ∷ (exited t ∷ a))

  below : t < 128
  below = (task_unfinished m ys zs s r).0

  pub alive_t : alive n t ≡ true
  alive_t = spot_alive m Old r n holder line way s (mine_spot m ys zs s r)

  pub alive_h : alive n h ≡ true
  alive_h = holder_alive m Old r n holder line way q h first

  pub children_is : view_in n q CHILDREN t ≡ Q.children t
  children_is = children_word n q t alive_t

  pub user_is : view_in n q USER t ≡ Q.user t
  user_is = user_word n q t alive_t

  pub right_is : view_in n q RIGHT t ≡ Q.right t
  right_is = right_word n q t alive_t

  pub inner_is : inner M q h t ≡ reduced (Q.children t) (Q.user t)
  inner_is = ap₂ (λ (x y : Extent). reduced x y) children_is user_is

  pub whole_is : whole M q h t ≡ returned t Q
  whole_is = ap₂ (λ (x y : Extent). reduced x y) inner_is right_is

  pub was : Laid own Q h Line-t
  was = subst (Laid own Q h) parts (way.laids.laid q small)

  pub views : Leaving own (single m Old r n holder line way q small) Q h b t a c
  views = leaving_views own (single m Old r n holder line way q small) Q h b t a c was

  pub held : (x : ℕ) → 0 < occurrences x (segments Line-t) → 0 < occurrences x (segments (line q))
  held x = subst (λ (l : Line). 0 < occurrences x (segments l)) (sym parts)

  pub not_none : (x : ℕ) → 0 < occurrences x (segments Line-t) → x ≡ NONE → ⊥
  not_none x l e = let k = held_local m Old r n holder line way q small x (held x l) in omega (arith, k, e)

  holder_there : Unfinished (decode m) h × (0 < occurrences h r.tour)
  holder_there =
      subst (λ (x : ℕ). Unfinished (decode m) x × (0 < occurrences x r.tour))
      (some-injective _ _ (sym ((parts_of m Old r).first q small) ∙ first))
      (holder_unfinished m Old r q small)

  -- a segment that is alone in the first gap
  pub names : (z : ℕ) → first_chain Line-t ≡ z ∷ [] → Names M r.tour z h q
  names z e = first_names (opened m) (opened_single m) n r.tour holder line way.laids
      (λ x l p. unfinished_live m Old r n holder line way x (task_there m Old r x l p)) covered q small alive_h z [] (ap first_chain parts ∙ e)

  -- A LINK, in words w that mean the same segments
  pub linkable : (w : List ℕ) → Kept n w → contents_in w ≡ contents_in n → free_in w ≡ free_in n → (z x : ℕ) → Link Q Line-t z x
      → (Names M r.tour z h q → Names (meaning_of w) r.tour z h q) → Linkable w q h z x
  unfolding queue_memory of_tasks
  linkable w kept same-contents same_free z x k f =
      let low = held_local m Old r n holder line way q small z (held z k.from) in
      record {
        from = let l = held_below m Old r n holder line way q small z (held z k.from) in let e = kept.number in omega (arith, l, e);
        to = held_local m Old r n holder line way q small x (held x k.to);
        freed = λ e. (
          names_by w r.tour z h q holder_there.0.0 small low holder_there.1
              (f (names z (k.alone (ap (λ (g : ℕ → List ℕ). g z) (sym same-contents) ∙ e)))) Old
              (keeps_linked n w (same_links n w way.sized kept) r.tour Old Old (way_linked m Old r n holder line way) refl (λ o i. i)),
          (let l = room m Old r n holder line way q small z (held z k.from) in
              let d = kept.number in
              let g = ap length same_free in
              omega (arith, l, d, g)),
        );
      }

  -- THE FIRST REDUCTION links nothing.
  user_apart : Apart (view_in n q CHILDREN t) (view_in n q USER t)
  user_apart = subst₂ (λ (x y : Extent). Apart x y) (sym children_is) (sym user_is) views.user_apart

  user_tailed : Tailed (view_in n q USER t)
  user_tailed =
      tails_tailed (λ x. 0 < occurrences x (segments Line-t)) not_none (view_in n q USER t)
      (subst (Tails (λ x. 0 < occurrences x (segments Line-t))) (sym user_is) views.user_held)

  user_links : Links n q h (view_in n q CHILDREN t) (view_in n q USER t)
  user_links = meets_links (λ x y. ⊥) n q h (λ x y z. absurd z) (view_in n q CHILDREN t) (view_in n q USER t) user_apart

  merged : Becomes n (words1 n t q) (merged_in M q h CHILDREN t USER t)
  merged = view_merged n q t CHILDREN h way.sized small (omega arith) below USER t (omega arith) below user_tailed user_links

  pub store_idle : joined h (view_in n q CHILDREN t) (view_in n q USER t) (store_of M q) ≡ store_of M q
  store_idle = apart_joined h (view_in n q CHILDREN t) (view_in n q USER t) (store_of M q) user_apart

  means_merged : meaning_of (words1 n t q) ≡ with_view (with_view M q CHILDREN t (inner M q h t)) q USER t vacant
  means_merged =
      merged.means
      ∙ ap (λ (st : Store). with_view (with_view (with_store M q st) q CHILDREN t (inner M q h t)) q USER t vacant) store_idle
      ∙ ap (λ (N : Meaning). with_view (with_view N q CHILDREN t (inner M q h t)) q USER t vacant) (store_self M q)

  names_merged : (z : ℕ) → Names M r.tour z h q → Names (meaning_of (words1 n t q)) r.tour z h q
  names_merged z w =
      subst (λ (N : Meaning). Names N r.tour z h q) (sym means_merged)
      (names_view (with_view M q CHILDREN t (inner M q h t)) r.tour z h q q USER t vacant (vacant_not z)
      (names_view M r.tour z h q q CHILDREN t (inner M q h t) (headless_not (inner M q h t) (subst Headless (sym inner_is) views.inner_headless) z) w))

  -- THE SECOND may link the tail to the head of the right view.
  pub reduces : Reduces n t q h
  reduces =
      record {
        user_tailed = user_tailed;
        user_links = user_links;
        right_tailed = tails_tailed (λ x. 0 < occurrences x (segments Line-t)) not_none (view_in n q RIGHT t)
            (subst (Tails (λ x. 0 < occurrences x (segments Line-t))) (sym right_is) views.right_held);
        right_links = meets_links (Link Q Line-t) (words1 n t q) q h
            (λ z x k.
            linkable (words1 n t q) merged.kept (ap (λ (N : Meaning). N.contents) means_merged) (ap (λ (N : Meaning). N.free) means_merged) z x k
            (names_merged z))
            (inner M q h t) (view_in n q RIGHT t)
            (subst₂ (λ (x y : Extent). Meets (Link Q Line-t) x y) (sym inner_is) (sym right_is) views.right_meets);
      }
