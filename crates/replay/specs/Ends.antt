-- The lines of the end, compared one by one.
use Rattle.std.specs.Prelude.{Option as Given, Some as known, None as unknown, ◌≡◌, Bool, true, false, ℕ, ◌+◌, ◌-◌, ◌<◌, ◌≤◌}
use Rattle.std.proofs.Math.Path.{refl, ap}
use Rattle.std.proofs.Common.{sym, ◌∙◌, true≢false, eqb, arith}
use mathlib.Core.List.{List, [], ◌∷◌, ◌++◌, map}
use Rattle.std.proofs.Math.Option.{Option, none, some}
use Rattle.std.proofs.Math.ListN.{length}
use borrow.Author.Tests.{eqb-true}
use Rattle.spec_words.specs.Words.{pick, halt, pass}
use Rattle.spec_lists.specs.Tests.{turn_left, turns_over}
use Rattle.spec_outcomes.specs.Waits.{unfinished}
use Rattle.run_text.specs.Lines.{left_line, open_line}
use Rattle.block_text.specs.Values.{onto, read_from}
use Rattle.overlap_text.specs.Whole.{value_in, unfinished_in}
use Rattle.spec_trace.specs.declared.Line.{Line}
use Rattle.spec_trace.specs.Line.{render, render_all}
use Rattle.spec_trace.specs.Read.{line_at}
use Rattle.spec_trace.specs.Form.{lines_in}
use Rattle.block_text.specs.Given.{left_of}
use Rattle.spec_replay.specs.Expected.{queue_texts, queues_from, end_texts}
use Rattle.spec_replay.specs.Replay.{is_same_text, first_difference}
use Rattle.replay.specs.At.{list_of, lines_of, Room, none_left, Next}

module _ {bs : List ℕ} {n : ℕ} (h : Room bs n) where
  -- nothing is left to compare
  pub no_line : (line_at bs).rest ≡ none → (es : List (List ℕ)) → first_difference n (lines_of bs) es ≡ 0
  unfolding first_difference
  no_line g es = ap (λ (ls : List Line). first_difference n ls es) (none_left h g)

  -- a line more than are printed, and none
  line_more : (length bs ≡ 0 → ⊥) → first_difference n (lines_of bs) [] ≡ n + 1
  unfolding first_difference render_all
  line_more g = go (lines_of bs) h.lined.text
    where
      go : (ls : List Line) → render_all ls ≡ bs → first_difference n ls [] ≡ n + 1
      go [] e = let z = ap length e in absurd (g (sym z))
      go (l ∷ ls) e = refl

  pub one_over : false ≡ eqb (length bs) 0 → (first_difference n (lines_of bs) [] ≡ n + 1) × (0 < n + 1)
  one_over e = (line_more (λ z. true≢false (sym (e ∙ ap (λ (k : ℕ). eqb k 0) z))), omega arith)

  pub none_over : true ≡ eqb (length bs) 0 → first_difference n (lines_of bs) [] ≡ 0
  none_over e = go bs (eqb-true (length bs) 0 (sym e))
    where
      go : (bs : List ℕ) → length bs ≡ 0 → first_difference n (lines_of bs) [] ≡ 0
      go [] f = unfold first_difference lines_of list_of lines_in in refl
      go (b ∷ bs) f = let z : ⊥ = omega (arith, f) in absurd z

  -- one line against one
  one_line : {l : Line} {rs : List ℕ} → Next bs n l rs → (e : List ℕ) (es : List (List ℕ)) {b : Bool} → b ≡ is_same_text (render l) e
      → first_difference n (lines_of bs) (e ∷ es) ≡ pick b (first_difference (n + 1) (lines_of rs) es) (n + 1)
  unfolding first_difference
  one_line {l} {rs} x e es f =
      ap (λ (ls : List Line). first_difference n ls (e ∷ es)) x.lines
      ∙ ap (λ (c : Bool). pick c (first_difference (n + 1) (lines_of rs) es) (n + 1)) (sym f)

-- THE VALUES OF A QUEUE: i of them are compared, and the bytes ds are left
pub record Passing (bs m : List ℕ) (q n₀ : ℕ) (ds : List ℕ) (n i : ℕ) : Type 0 where
  pub room : Room ds n
  pub same : (es : List (List ℕ)) → first_difference n₀ (lines_of bs) (queue_texts m q ++ es)
      ≡ first_difference n (lines_of ds) (map (left_line q) (read_from (value_in m q) (16384 - i) i) ++ es)

pub none_compared : (bs m : List ℕ) (q n : ℕ) → Room bs n → Passing bs m q n bs n 0
unfolding queue_texts
none_compared bs m q n h = record { room = h; same = λ es. refl }

module _ {bs m : List ℕ} {q n₀ : ℕ} {ds : List ℕ} {n i : ℕ} (g : Passing bs m q n₀ ds n i) where
  abbrev left : ℕ → ℕ → List (List ℕ) → ℕ
  left k i es = first_difference n (lines_of ds) (map (left_line q) (read_from (value_in m q) k i) ++ es)

  -- what is left is compared with what follows
  abbrev Goes : Type 0
  Goes = (es : List (List ℕ)) → (first_difference n₀ (lines_of bs) (queue_texts m q ++ es) ≡ first_difference n (lines_of ds) es) × Room ds n

  -- no value is left, or no line
  pub all_read : 16384 ≤ i → Goes
  unfolding read_from
  all_read h es = (g.same es ∙ ap (λ (k : ℕ). left k i es) (turns_over 16384 i h), g.room)

  pub no_lines : (line_at ds).rest ≡ none → Goes
  no_lines f es = (g.same es ∙ no_line g.room f _ ∙ sym (no_line g.room f es), g.room)

  module _ (h : i < 16384) (o : Given ℕ) (e : value_in m q i ≡ left_of o) where
    turned : (x : Option ℕ) → value_in m q i ≡ x → (es : List (List ℕ))
        → first_difference n₀ (lines_of bs) (queue_texts m q ++ es)
        ≡ first_difference n (lines_of ds) (map (left_line q) (onto x (read_from (value_in m q) (16384 - (i + 1)) (i + 1))) ++ es)
    unfolding read_from
    turned x f es =
        g.same es
        ∙ ap (λ (k : ℕ). left k i es) (turn_left 16384 i h)
        ∙ ap (λ (x : Option ℕ). first_difference n (lines_of ds) (map (left_line q) (onto x (read_from (value_in m q) (16384 - (i + 1)) (i + 1))) ++ es)) f

    pub no_value : o ≡ unknown → Goes
    unfolding onto left_of
    no_value f es = (turned none (e ∙ ap left_of f) es, g.room)

    module _ {v : ℕ} (f : o ≡ known v) {l : Line} {rs : List ℕ} (x : Next ds n l rs) {b : Bool} (s : b ≡ is_same_text (render l) (left_line q v)) where
      there : (es : List (List ℕ)) → first_difference n₀ (lines_of bs) (queue_texts m q ++ es)
          ≡ pick b (first_difference (n + 1) (lines_of rs) (map (left_line q) (read_from (value_in m q) (16384 - (i + 1)) (i + 1)) ++ es)) (n + 1)
      unfolding onto left_of
      there es = turned (some v) (e ∙ ap left_of f) es ∙ one_line g.room x _ _ s

      pub value_differs : b ≡ false → (es : List (List ℕ)) → (first_difference n₀ (lines_of bs) (queue_texts m q ++ es) ≡ n + 1) × (0 < n + 1)
      value_differs z es = (there es ∙ pass _ z refl, omega arith)

      pub value_same : b ≡ true → Passing bs m q n₀ rs (n + 1) (i + 1)
      value_same z = record { room = x.room; same = λ es. there es ∙ halt _ _ z }

-- THE QUEUES: those before q are compared, and the bytes ds are left
pub record Queues (bs m : List ℕ) (n₀ : ℕ) (ds : List ℕ) (n q : ℕ) : Type 0 where
  pub room : Room ds n
  pub same : first_difference n₀ (lines_of bs) (queues_from m 0 4) ≡ first_difference n (lines_of ds) (queues_from m q (4 - q))

pub no_queue : (bs m : List ℕ) (n : ℕ) → Room bs n → Queues bs m n bs n 0
no_queue bs m n h = record { room = h; same = refl }

module _ {bs m : List ℕ} {n₀ : ℕ} {ds : List ℕ} {n q : ℕ} (g : Queues bs m n₀ ds n q) where
  module _ (h : q < 4) where
    turned_to : first_difference n₀ (lines_of bs) (queues_from m 0 4)
        ≡ first_difference n (lines_of ds) (queue_texts m q ++ queues_from m (q + 1) (4 - (q + 1)))
    unfolding queues_from
    turned_to = g.same ∙ ap (λ (k : ℕ). first_difference n (lines_of ds) (queues_from m q k)) (turn_left 4 q h)

    pub queue_differs : {k : ℕ} → ((es : List (List ℕ)) → (first_difference n (lines_of ds) (queue_texts m q ++ es) ≡ k) × (0 < k))
        → (first_difference n₀ (lines_of bs) (queues_from m 0 4) ≡ k) × (0 < k)
    queue_differs c = (turned_to ∙ (c _).0, (c []).1)

    pub queue_same : {rs : List ℕ} {k : ℕ}
        → ((es : List (List ℕ)) → (first_difference n (lines_of ds) (queue_texts m q ++ es) ≡ first_difference k (lines_of rs) es) × Room rs k)
        → Queues bs m n₀ rs k (q + 1)
    queue_same c = record { room = (c []).1; same = turned_to ∙ (c _).0 }

  pub at_end : 4 ≤ q → first_difference n₀ (lines_of bs) (queues_from m 0 4) ≡ first_difference n (lines_of ds) []
  unfolding queues_from
  at_end h = g.same ∙ ap (λ (k : ℕ). first_difference n (lines_of ds) (queues_from m q k)) (turns_over 4 q h)

-- A RUN THAT IS NOT OVER has one line
module _ (m : List ℕ) {bs : List ℕ} {n : ℕ} (h : Room bs n) where
  abbrev compared : ℕ
  compared = first_difference n (lines_of bs) (open_line (unfinished_in m) ∷ [])

  module _ {l : Line} {rs : List ℕ} (x : Next bs n l rs) {b : Bool} (s : b ≡ is_same_text (render l) (open_line (unfinished_in m))) where
    pub open_differs : b ≡ false → (compared ≡ n + 1) × (0 < n + 1)
    open_differs z = (one_line h x _ [] s ∙ pass _ z refl, omega arith)

    pub open_same : b ≡ true → compared ≡ first_difference (n + 1) (lines_of rs) []
    open_same z = one_line h x _ [] s ∙ halt _ _ z

-- which of the two
module _ (m bs : List ℕ) (n : ℕ) where
  pub top_open : unfinished m 0 ≡ true → first_difference n (lines_of bs) (end_texts m) ≡ first_difference n (lines_of bs) (open_line (unfinished_in m) ∷ [])
  unfolding end_texts
  top_open e = ap (first_difference n (lines_of bs)) (halt _ _ e)

  pub top_over : unfinished m 0 ≡ false → first_difference n (lines_of bs) (end_texts m) ≡ first_difference n (lines_of bs) (queues_from m 0 4)
  unfolding end_texts
  top_over e = ap (first_difference n (lines_of bs)) (pass _ e refl)
