-- A TAKE: what the words find is what program order finds, and a pop, the step of a take that takes, keeps the invariant.
use Rattle.std.proofs.Math.Path.{◌≡◌, refl, ap, ap₂, sym, subst}
use Rattle.std.proofs.Common.{◌∙◌, inl, inr, arith, ne_eqb}
use Rattle.std.specs.Prelude.{Bool, true, false, ℕ, ◌<◌}
use Rattle.std.proofs.lemmas.Bool.{false≢true}
use Rattle.std.proofs.Math.Option.{none, some}
use mathlib.Core.List.{List, [], ◌∷◌, ◌++◌}
use Rattle.spec_words.specs.Words.{pick, halt, pass as skip}
use Rattle.spec_layout.specs.Layout.{Opened, queue_head, read}
use Rattle.spec_tree.specs.Rights.{pops as mayPop}
use Rattle.spec_answers.specs.declared.Finding.TheVariants as Finding
use Rattle.spec_outcomes.specs.Waits.{pusher_before}
use Rattle.spec_outcomes.specs.Segments.{value_at}
use Rattle.spec_outcomes.specs.Take.{has_value, popped}
use Rattle.spec_order.specs.Steps.{Task, Item, step, spot, pops, number_of, rights_of, advance}
use Rattle.spec_order.specs.Waits.{blocked, child_pops}
use Rattle.spec_order.specs.Finding.{run, runs, before, found}
use Rattle.law_order.specs.Items.{In}
use Rattle.law_order.specs.Moves.{plain_pop}
use Rattle.law_order_waits.specs.Played.{Played, played_reached}
use Rattle.law_order_waits.specs.Popper.{first_popper}
use Rattle.law_order_waits.specs.Poppers.{free_first, first_says}
use Rattle.law_order_queue.specs.Points.{Point, value, user, values, added, takes, NoPopper, Timeline}
use Rattle.law_order_queue.specs.Found.{first_of}
use Rattle.law_order_queue.specs.Laws.{pop_line}
use Rattle.law_order_queue.specs.Finds.{finds, NoValueFirst, finds_none}
use Rattle.spec_lists.specs.Maps.{put_same, all_behind}
use Rattle.law_gaps.specs.Line.{vacant, Line, base, exited, entered, pass, first_chain}
use Rattle.law_gaps.specs.Store.{Memory, Chain, Start, sole, full, head_of, Laid, values_in, timeline}
use Rattle.law_gaps.specs.Lines.{NoBase, first_behind}
use Rattle.law_gaps.proofs.Frames.{bottomed, no_base}
use Rattle.law_gaps.proofs.Timelines.{timeline_append}
use Rattle.law_gaps.specs.Moves.{popped_to, popped as memoryPopped}
use Rattle.law_gaps.proofs.After.{After}
use Rattle.law_gaps.proofs.PopRow.{pop_row}
use Rattle.law_gaps.proofs.Pool.{mine}
use Rattle.law_links.specs.Searches.{same_pusher}
use Rattle.law_maps.specs.Meaning.{meaning_of, memory_of, memory_in, contents_in, next_in, heads_in, store_in}
use Rattle.law_maps.specs.Update.{memory_shared, shared}
use Rattle.law_maps.specs.Kept.{Becomes}
use Rattle.law_maps.specs.Pop.{popped_in, memory_popped, value_popped}
use Rattle.law_maps.specs.Find.{value_there, no_value}
use Rattle.law_invariant.specs.Represents.{alive, of_tasks, queue_memory, uses_in, Represents}
use Rattle.law_invariant.specs.Nexts.{Nexts, nexts_popped, words_nexts}
use Rattle.law_invariant.specs.Parts.{holders, parts_of}
use Rattle.law_invariant.specs.Live.{live_popping}
use Rattle.law_invariant.specs.Plain.{queue_represents}
use Rattle.law_invariant.specs.FirstNamed.{one_mine, segment_below}
use Rattle.law_invariant.specs.Room.{room}
use Rattle.law_invariant.specs.At.{task_unfinished, task_alive, single_spot, where_it_stands}
use Rattle.law_invariant.specs.Push.{queue_memory_lem, masked_share}
use Rattle.law_invariant.specs.FirstNames.{first_in}

quiet : (q p : ℕ) → (p ≡ q → ⊥) → (added p (pops q) ≡ []) × (takes p (pops q) ≡ 0)
unfolding added takes
quiet q p n = (refl, skip _ (ne_eqb q p (λ e. n (sym e))) refl)

no_popper : (q : ℕ) (ys : List Item) → ((o : Task) → In (spot o) ys → mayPop (rights_of o) q ≡ false) → NoPopper q ys
no_popper q [] h = tt
no_popper q (step p a ∷ ys) h = no_popper q ys (λ o i. h o (inr i))
no_popper q (spot o ∷ ys) h = (h o (inl refl), no_popper q ys (λ u i. h u (inr i)))

-- the timeline of a line without its first gap begins with a spot
no_value_first : (contents : ℕ → List ℕ) (b : Line) → NoBase b → NoValueFirst (timeline contents b)
no_value_first contents [] h v rs e = let z : ◌≡◌ {A = ℕ} 0 1 = cc in omega (arith, z)
no_value_first contents (base c ∷ b) h v rs e = absurd h
no_value_first contents (exited t ∷ b) h v rs e = no_value_first contents b h v rs e
no_value_first contents (pass x ∷ b) h v rs e = no_value_first contents b h v rs e
no_value_first contents (entered t c ∷ b) h v rs e = go (timeline contents b) (no_value_first contents b h) e
  where
    go : (l : List Point) → NoValueFirst l → l ++ (user t ∷ values_in contents c) ≡ value v ∷ rs → ⊥
    go [] f d = let z : ◌≡◌ {A = ℕ} 0 1 = cc in omega (arith, z)
    go (value w ∷ l) f d = f w l refl
    go (user u ∷ l) f d = let z : ◌≡◌ {A = ℕ} 0 1 = cc in omega (arith, z)

module _ (m : List ℕ) (ys zs : List Item) (s : Task) (r : Represents m (ys ++ spot s ∷ zs)) (q : ℕ) (small : q < 4) (may : mayPop (rights_of s) q ≡ true)
    (free : blocked (number_of s) (ys ++ spot s ∷ zs) ≡ false) (alone : child_pops q (number_of s) (ys ++ spot s ∷ zs) ≡ false) where
  abbrev t : ℕ
  t = number_of s

  abbrev Old : List Item
  Old = ys ++ spot s ∷ zs

  is_first : first_popper q Old ≡ some t
  is_first = free_first ys zs s q small r.played may free alone

  holder_is : holders m Old r q ≡ t
  holder_is = let e : some (holders m Old r q) ≡ some t = sym ((parts_of m Old r).first q small) ∙ is_first in cc

  none_before : NoPopper q ys
  none_before = no_popper q ys (first_says ys zs s q (played_reached r.played) is_first)

  laid : Laid (mine (queue_memory m q).store (r.line q)) (queue_memory m q) (holders m Old r q) (r.line q)
  laid = (parts_of m Old r).laids.laid q small

  -- the first gap: what stands behind it, its first segment, the segments behind that
  pub bottom : (b : Line) × (g : ℕ) × (c : List ℕ) × (r.line q ≡ b ++ (base (g ∷ c) ∷ []))
  bottom = bottomed laid.views

  abbrev pub b : Line
  b = bottom.0

  abbrev pub g : ℕ
  g = bottom.1

  abbrev pub c : List ℕ
  c = bottom.2

  laid_first : Laid (mine (queue_memory m q).store (r.line q)) (queue_memory m q) (holders m Old r q) (b ++ (base (g ∷ c) ∷ []))
  laid_first = subst (λ (l : Line). Laid (mine (queue_memory m q).store (r.line q)) (queue_memory m q) (holders m Old r q) l) bottom.3 laid

  no_base_later : NoBase b
  no_base_later = no_base b (base (g ∷ c)) [] laid_first.views

  first_is : first_chain (r.line q) ≡ g ∷ c
  first_is = ap first_chain bottom.3 ∙ first_behind b (base (g ∷ c) ∷ []) no_base_later

  g_below : Opened m g
  g_below = segment_below m Old r q g small (first_in (r.line q) g c first_is)

  head_is : heads_in m q t ≡ some g
  unfolding queue_memory of_tasks
  head_is =
      sym (halt _ _ (task_alive m ys zs s r))
      ∙ ap (λ (x : ℕ). (queue_memory m q).store.heads x) (sym holder_is)
      ∙ laid.held.head (holders m Old r q)
      ∙ put_same (λ y. none) (holders m Old r q) (head_of (first_chain (r.line q)))
      ∙ ap head_of first_is

  line_time : timeline (contents_in m) (r.line q) ≡ values_in (contents_in m) (g ∷ c) ++ timeline (contents_in m) b
  line_time = ap (timeline (contents_in m)) bottom.3 ∙ timeline_append (contents_in m) b (base (g ∷ c) ∷ [])

  -- an empty first segment is alone
  empty_alone : contents_in m g ≡ [] → c ≡ []
  unfolding queue_memory of_tasks
  empty_alone e = go c (all_behind (Chain (queue_memory m q).store.next (contents_in m)) b (base (g ∷ c) ∷ []) laid_first.held.chains.good).0.1
    where
      go : (c : List ℕ) → Start (contents_in m) (g ∷ c) → c ≡ []
      go c (sole f) = refl
      go c (full f) = let w = f.0.2 in let z : ◌≡◌ {A = ℕ} 0 1 = cc in absurd (omega (arith, z))

  -- what the words find
  pub finds_same : found (runs q (before t Old) (run false []))
      ≡ pick (has_value m t q) (Finding.Value (value_at m (read m (queue_head t q)) 0)) (pick (pusher_before m t q) Finding.Waits Finding.Empty)
  unfolding first_of
  finds_same = finds q ys zs s (single_spot m ys zs s r) may none_before ((parts_of m Old r).time q small) ∙ go (contents_in m g) refl
    where
      go : (vs : List ℕ) → contents_in m g ≡ vs
          → first_of t (timeline (contents_in m) (r.line q))
          ≡ pick (has_value m t q) (Finding.Value (value_at m (read m (queue_head t q)) 0)) (pick (pusher_before m t q) Finding.Waits Finding.Empty)
      go (w ∷ ws) e =
          let k = value_there m t q (task_unfinished m ys zs s r).0 small g r.sized g_below head_is w ws e in
          ap (first_of t) (line_time ∙ ap (λ (l : List ℕ). (values l ++ values_in (contents_in m) c) ++ timeline (contents_in m) b) e)
          ∙ ap Finding.Value (sym k.1)
          ∙ sym (halt _ _ k.0)
      go [] e =
          let time_is : timeline (contents_in m) (r.line q) ≡ timeline (contents_in m) b =
          line_time ∙ ap₂ (λ (l : List ℕ) (d : List ℕ). (values l ++ values_in (contents_in m) d) ++ timeline (contents_in m) b) e (empty_alone e) in
          finds_none q ys zs s (single_spot m ys zs s r) may none_before ((parts_of m Old r).time q small)
          (subst NoValueFirst (sym time_is) (no_value_first (contents_in m) b no_base_later))
          ∙ ap (λ (x : Bool). pick x Finding.Waits Finding.Empty) (sym (same_pusher m r.tour ys zs s r.linked (where_it_stands m ys zs s r) q))
          ∙ sym (skip _ (no_value m t q (task_unfinished m ys zs s r).0 small g r.sized g_below head_is e) refl)

  -- where the words have a value, the first segment has one
  pub held_value : has_value m t q ≡ true → (w : ℕ) × (ws : List ℕ) × (contents_in m g ≡ w ∷ ws)
  held_value h = go (contents_in m g) refl
    where
      go : (vs : List ℕ) → contents_in m g ≡ vs → (w : ℕ) × (ws : List ℕ) × (contents_in m g ≡ w ∷ ws)
      go [] e = absurd (false≢true (sym (no_value m t q (task_unfinished m ys zs s r).0 small g r.sized g_below head_is e) ∙ h))
      go (w ∷ ws) e = (w, ws, e)

  -- A POP keeps the invariant.
  module _ (w : ℕ) (ws : List ℕ) (filled : contents_in m g ≡ w ∷ ws) where
    abbrev New : List Item
    New = advance t (pops q) Old

    abbrev Rest : List Point
    Rest = values ws ++ (values_in (contents_in m) c ++ timeline (contents_in m) b)

    abbrev after : Memory
    after = memoryPopped (holders m Old r q) g ws (queue_memory m q)

    row : (timeline (contents_in m) (b ++ (base (g ∷ c) ∷ [])) ≡ value w ∷ Rest)
        × After (mine (queue_memory m q).store (r.line q)) (queue_memory m q).store after (holders m Old r q) (b ++ (base (g ∷ c) ∷ [])) Rest
    unfolding queue_memory of_tasks
    row = pop_row (mine (queue_memory m q).store (r.line q)) (one_mine m Old r q small) (queue_memory m q) (holders m Old r q) b g c w ws filled laid_first

    new_time : Timeline q New Rest
    new_time =
        pop_line q ys zs s (single_spot m ys zs s r) w Rest may none_before
        (subst (Timeline q Old) (ap (timeline (contents_in m)) bottom.3 ∙ row.0) ((parts_of m Old r).time q small))

    becomes : Becomes m (popped m t q) (popped_in (meaning_of m) q t g ws)
    becomes =
        value_popped m t q g w ws r.sized (task_unfinished m ys zs s r).0 small g_below head_is filled
        (λ e h f. room m Old r q small g (first_in (r.line q) g c first_is))

    same : queue_memory (popped m t q) q ≡ after
    unfolding queue_memory
    same =
        queue_memory_lem q becomes
        ∙ ap (of_tasks (alive m)) (memory_popped (meaning_of m) q t g ws)
        ∙ live_popping (alive m) t g ws (memory_in m q) (task_alive m ys zs s r)
        ∙ ap (λ (x : ℕ). memoryPopped x g ws (queue_memory m q)) (sym holder_is)

    pub pop_represents : Played New → Represents (popped m t q) New
    unfolding queue_memory of_tasks
    pop_represents play =
        queue_represents m ys zs s r (pops q) (plain_pop q) (popped m t q) becomes.kept becomes.sized play q small Rest nexts
        (subst (λ (x : Memory). After (mine (queue_memory m q).store (r.line q)) (queue_memory m q).store x (holders m Old r q) (r.line q) Rest) (sym same)
        (subst (λ (l : Line). After (mine (queue_memory m q).store (r.line q)) (queue_memory m q).store after (holders m Old r q) l Rest) (sym bottom.3)
        row.1))
        others bare new_time (λ p i k. quiet q p k)
      where
        nexts : Nexts (Opened m) (next_in (popped m t q))
        nexts =
            subst (λ (x : Memory). Nexts (Opened m) x.store.next) (sym same)
            (unfold memoryPopped in
            nexts_popped (Opened m) (let l = r.sized.number_range.0 in omega (arith, l)) ws (next_in m g) (holders m Old r q) g
            (queue_memory m q).store (words_nexts m r.sized r.nexts))

        others : (p : ℕ) → p < 4 → (p ≡ q → ⊥) → queue_memory (popped m t q) p ≡ shared (queue_memory (popped m t q) q).store (queue_memory m p)
        others p i k =
            queue_memory_lem p becomes
            ∙ ap (of_tasks (alive m)) (memory_shared (meaning_of m) q (popped_to ws (next_in m g) t g (store_in m q)) p k)
            ∙ masked_share (alive m) (memory_of (popped_in (meaning_of m) q t g ws) q) (memory_in m p)
            ∙ ap (λ (x : Memory). shared x.store (queue_memory m p)) (sym (queue_memory_lem q becomes))

        bare : (x : ℕ) → uses_in m q x ≡ false
            → ((queue_memory (popped m t q) q).children x ≡ vacant) × ((queue_memory (popped m t q) q).user x ≡ vacant)
            × ((queue_memory (popped m t q) q).right x ≡ vacant)
        bare x e =
            subst (λ (u : Memory). (u.children x ≡ vacant) × (u.user x ≡ vacant) × (u.right x ≡ vacant)) (sym same)
            (unfold memoryPopped in (parts_of m Old r).bare q small x e)
