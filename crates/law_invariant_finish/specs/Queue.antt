-- A QUEUE WHOSE TURN IT IS: its segments, its views and its queue heads, by the words n.
use Rattle.std.specs.Prelude.{◌≡◌, refl, Bool, true, false, List, ℕ, ◌+◌, ◌<◌, ◌≤◌, length}
use Rattle.std.proofs.Common.{ap, sym, ◌∙◌, subst, arith}
use Rattle.std.proofs.lemmas.Bool.{false≢true}
use Rattle.std.proofs.Math.Option.{some}
use Rattle.spec_lists.specs.Counting.{occurrences}
use Rattle.spec_layout.specs.Layout.{NL, Opened, segments_of}
use Rattle.spec_tree.specs.Rights.{uses, pops as mayPop}
use Rattle.spec_rules.specs.Contents.{decode}
use Rattle.spec_rules.specs.Rules.{Unfinished}
use Rattle.spec_order.specs.Steps.{Task, Item, spot, number_of, rights_of}
use Rattle.law_order.specs.Items.{In}
use Rattle.law_order_waits.specs.Played.{played_reached}
use Rattle.law_order_waits.specs.Spots.{same_number}
use Rattle.law_order_waits.specs.Popper.{first_popper}
use Rattle.law_order_waits.specs.Poppers.{popper_says}
use Rattle.law_gaps.specs.Line.{Line, segments}
use Rattle.law_gaps.proofs.Pool.{mine}
use Rattle.law_links.specs.Linked.{Linked, spot_unfinished}
use Rattle.law_links.specs.Frame.{keeps_linked}
use Rattle.law_maps.specs.Meaning.{free_in, store_in}
use Rattle.law_invariant.specs.Represents.{alive, of_tasks, queue_memory, opened, Represents}
use Rattle.law_invariant.specs.Laids.{held_opened, mine_one}
use Rattle.law_invariant.specs.Parts.{opened_single, same_alive}
use Rattle.law_invariant.specs.Plain.{same_links}
use Rattle.law_invariant.specs.Room.{shorter, opened_says}
use Rattle.law_invariant.specs.Views.{unfinished_alive}
use Rattle.spec_tree.specs.Users.{pops_uses}
use Rattle.law_invariant_finish.specs.Way.{Way}

module _ (m : List ℕ) (xs : List Item) (r : Represents m xs) (n : List ℕ) (holder : ℕ → ℕ) (line : ℕ → Line) (way : Way m n holder line) where
  -- THE TREE is that of m
  pub way_linked : Linked n r.tour xs
  way_linked = keeps_linked m n (same_links m n r.sized way.kept) r.tour xs xs r.linked refl (λ s i. i)

  -- an unfinished task is in use
  pub unfinished_live : (u : ℕ) → Unfinished (decode m) u → alive n u ≡ true
  unfinished_live u k = ap (λ (f : ℕ → Bool). f u) (same_alive m n way.kept) ∙ unfinished_alive m u k

  pub spot_alive : (o : Task) → In (spot o) xs → alive n (number_of o) ≡ true
  spot_alive o i = unfinished_live (number_of o) (spot_unfinished m r.tour xs r.linked o i)

  -- SEGMENTS
  held : (q : ℕ) → q < 4 → (x : ℕ) → occurrences x (segments (line q)) + occurrences x (free_in n) ≤ opened m x
  held = held_opened (opened m) (opened_single m) (store_in n 0) line way.laids.pool

  pub single : (q : ℕ) → q < 4 → (x : ℕ) → mine (queue_memory n q).store (line q) x ≤ 1
  unfolding queue_memory of_tasks
  single = mine_one (opened m) (opened_single m) (store_in n 0) line way.laids.pool

  below : (s : ℕ) → 0 < opened m s → Opened n s
  below s p = let a = opened_says m s p in let e = way.kept.number in omega (arith, a, e)

  pub held_below : (q : ℕ) → q < 4 → (s : ℕ) → 0 < occurrences s (segments (line q)) → Opened n s
  held_below q i s p = let a = held q i s in below s (omega (arith, a, p))

  pub held_local : (q : ℕ) → q < 4 → (s : ℕ) → 0 < occurrences s (segments (line q)) → s < NL
  held_local q i s p = let l = held_below q i s p in let k = way.sized.number_range.1 in omega (arith, l, k)

  -- where a queue has a segment, not all are free
  pub room : (q : ℕ) → q < 4 → (s : ℕ) → 0 < occurrences s (segments (line q)) → length (free_in n) < segments_of n q
  room q i =
      shorter (segments_of n q) (segments (line q)) (free_in n)
      (λ x. let a = held q i x in let b = opened_single m x in omega (arith, a, b))
      (λ x l. let a = held q i x in below x (omega (arith, a, l)))

  -- THE HOLDER of the queue view is an unfinished task with a right
  module _ (q h : ℕ) (first : first_popper q xs ≡ some h) where
    pub holder_task : (o : Task) × In (spot o) xs × (number_of o ≡ h) × (mayPop (rights_of o) q ≡ true)
    holder_task = popper_says q xs h first

    pub holder_alive : alive n h ≡ true
    holder_alive = let w = holder_task in subst (λ (x : ℕ). alive n x ≡ true) w.2 (spot_alive w.0 w.1)

    -- so a task without a right is not the holder
    pub not_holder : (s : Task) → In (spot s) xs → uses (rights_of s) q ≡ false → number_of s ≡ h → ⊥
    not_holder s i u e =
        let w = holder_task in
        let same = same_number xs (played_reached r.played) w.0 s w.1 i (w.2 ∙ sym e) in
        false≢true (sym u ∙ ap (λ (o : Task). uses (rights_of o) q) (sym same) ∙ pops_uses (rights_of w.0) q w.3)
