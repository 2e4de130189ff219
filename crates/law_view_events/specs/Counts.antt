-- How often a segment is a head, and a tail, of the views of one task.
use Rattle.std.specs.Prelude.{◌≡◌, not, leb, ltb, eqb, drop}
use Rattle.std.proofs.Math.Path.{refl, ap, ap₂, sym}
use Rattle.std.proofs.Common.{◌∙◌, drop-drop, leb-true, leb-false, lt-ltb, le-ltb}
use mathlib.Core.List.{List, ◌∷◌}
use Rattle.std.proofs.Math.Logic.{⊎_elim}
use Prim.Native.Nat.{ℕ, zero, suc, ◌+◌, ◌*◌, ◌<◌}
use native.Mathlib.Omega.{arith}
use Rattle.spec_words.specs.Words.{load, pick, both, pass, halt}
use Rattle.spec_lists.specs.Counting.{one, occurrences, total, occurs_nil, occurs_cons, total_ext}
use Rattle.spec_lists.specs.Sums.{total_first}
use Rattle.spec_layout.specs.Layout.{NONE, NL, QUEUE_HEADS, HEADS, TAILS, HEAD_WORDS, TAIL_WORDS}
use Rattle.spec_tree.specs.Queues.{by_four}
use Rattle.spec_rules.specs.Contents.{Contents, word, locals}
use Rattle.law_rules_views.specs.Marks.{yes_no}
use Rattle.law_rules_views.specs.Members.{load_drop}
use Rattle.spec_view_events.specs.Events.{Event, queue_at, view_at, queues_at, kind_at}
use Rattle.spec_view_events.specs.Events.Event.{tail, head}
use Rattle.law_view_events.specs.Good.{owners_of, tails_of, heads_of}

-- 1 where the word x names segment s
unfoldable pub names : ℕ → ℕ → ℕ
names s x = pick (leb NL x) 0 (one (eqb x s))

-- among the words of task t from word a on: four of them
unfoldable pub names_at : Contents → ℕ → ℕ → ℕ → ℕ
names_at c s t a = names s (word c t (a + 0)) + names s (word c t (a + 1)) + names s (word c t (a + 2)) + names s (word c t (a + 3))

pub queues_owners : (c : Contents) (t : ℕ) (es : List Event) (q : ℕ) → q < 4
    → owners_of q (queues_at c t es) ≡ one (not (eqb (word c t (QUEUE_HEADS + q)) NONE)) + owners_of q es
unfolding queues_at queue_at owners_of one both pick
queues_owners c t es =
    by_four (λ q. owners_of q (queues_at c t es) ≡ one (not (eqb (word c t (QUEUE_HEADS + q)) NONE)) + owners_of q es)
    (omega arith) (omega arith) (omega arith) (omega arith)

-- the events of the four queues, each of which adds to a count n
four_add : (n : List Event → ℕ) (at : ℕ → List Event → List Event) (f : ℕ → ℕ) → ((q : ℕ) (es : List Event) → n (at q es) ≡ f q + n es)
    → (es : List Event) → n (at 0 (at 1 (at 2 (at 3 es)))) ≡ f 0 + f 1 + f 2 + f 3 + n es
four_add n at f h es =
    let v3 = h 3 es in
    let v2 = h 2 (at 3 es) in
    let v1 = h 1 (at 2 (at 3 es)) in
    let v0 = h 0 (at 1 (at 2 (at 3 es))) in
    omega (arith, v0, v1, v2, v3)

module _ (s : ℕ) where
  -- a list with x in front where x is a segment
  front : (x : ℕ) (l : List ℕ) → occurrences s (pick (leb NL x) l (x ∷ l)) ≡ names s x + occurrences s l
  unfolding names
  front x l =
      ⊎_elim
      (λ e.
      let a = ap (occurrences s) (halt l (x ∷ l) e) in
      let b = halt 0 (one (eqb x s)) e in
      a ∙ (let z : occurrences s l ≡ pick (leb NL x) 0 (one (eqb x s)) + occurrences s l = omega (arith, b) in z))
      (λ e.
      ap (occurrences s) (pass l e refl)
      ∙ occurs_cons x s l
      ∙ ap (λ (k : ℕ). k + occurrences s l) (sym (pass 0 e refl)))
      (yes_no (leb NL x))

  head_count : (h : ℕ) (es : List Event) → occurrences s (heads_of (head h ∷ es)) ≡ names s h + occurrences s (heads_of es)
  unfolding heads_of
  head_count h es = front h (heads_of es)

  tail_count : (x : ℕ) (es : List Event) → occurrences s (tails_of (tail x ∷ es)) ≡ names s x + occurrences s (tails_of es)
  unfolding tails_of
  tail_count x es = front x (tails_of es)

  module _ (c : Contents) (t : ℕ) where
    view_heads : (k q : ℕ) (es : List Event) → occurrences s (heads_of (view_at c t k q es)) ≡ names s (word c t (HEADS + k * 4 + q)) + occurrences s (heads_of es)
    unfolding view_at heads_of
    view_heads k q es = head_count (word c t (HEADS + k * 4 + q)) es

    view_tails : (k q : ℕ) (es : List Event) → occurrences s (tails_of (view_at c t k q es)) ≡ names s (word c t (TAILS + k * 4 + q)) + occurrences s (tails_of es)
    unfolding view_at tails_of
    view_tails k q es = tail_count (word c t (TAILS + k * 4 + q)) es

    queue_heads : (q : ℕ) (es : List Event) → occurrences s (heads_of (queue_at c t q es)) ≡ names s (word c t (QUEUE_HEADS + q)) + occurrences s (heads_of es)
    unfolding queue_at heads_of
    queue_heads q es = head_count (word c t (QUEUE_HEADS + q)) es

    pub kind_heads : (k : ℕ) (es : List Event) → occurrences s (heads_of (kind_at c t k es)) ≡ names_at c s t (20 + k * 4) + occurrences s (heads_of es)
    unfolding kind_at names_at
    kind_heads k = four_add (λ v. occurrences s (heads_of v)) (view_at c t k) (λ q. names s (word c t (HEADS + k * 4 + q))) (view_heads k)

    pub kind_tails : (k : ℕ) (es : List Event) → occurrences s (tails_of (kind_at c t k es)) ≡ names_at c s t (32 + k * 4) + occurrences s (tails_of es)
    unfolding kind_at names_at
    kind_tails k = four_add (λ v. occurrences s (tails_of v)) (view_at c t k) (λ q. names s (word c t (TAILS + k * 4 + q))) (view_tails k)

    pub queues_heads : (es : List Event) → occurrences s (heads_of (queues_at c t es)) ≡ names_at c s t 16 + occurrences s (heads_of es)
    unfolding queues_at names_at
    queues_heads = four_add (λ v. occurrences s (heads_of v)) (queue_at c t) (λ q. names s (word c t (QUEUE_HEADS + q))) queue_heads

    pub queues_tails : (es : List Event) → tails_of (queues_at c t es) ≡ tails_of es
    unfolding queues_at queue_at tails_of
    queues_tails es = refl

  -- the words below NL of a record
  local_count : (x : ℕ) (l : List ℕ) → occurrences s (pick (ltb x NL) (x ∷ l) l) ≡ names s x + occurrences s l
  local_count x l = ap (occurrences s) other ∙ front x l
    where
      other : pick (ltb x NL) (x ∷ l) l ≡ pick (leb NL x) l (x ∷ l)
      other =
          ⊎_elim
          (λ e. pass _ (le-ltb x NL (leb-true _ _ e)) refl ∙ sym (halt _ _ e))
          (λ e. halt _ _ (lt-ltb x NL (leb-false _ _ e)) ∙ sym (pass _ e refl))
          (yes_no (leb NL x))

  locals_count : (n a : ℕ) (rec : List ℕ) → occurrences s (locals n (drop a rec)) ≡ total n (λ j. names s (load rec (a + j)))
  unfolding locals
  locals_count zero a rec = occurs_nil s ∙ (unfold total in refl)
  locals_count (suc n) a rec =
      local_count (load (drop a rec) 0) (locals n (drop 1 (drop a rec)))
      ∙ ap₂ (λ (x y : ℕ). names s x + y) (load_drop rec a 0)
      (ap (λ (l : List ℕ). occurrences s (locals n l)) (drop-drop 1 a rec)
      ∙ locals_count n (a + 1) rec
      ∙ total_ext n _ _ (λ j l. ap (λ (i : ℕ). names s (load rec i)) (let z : a + 1 + j ≡ a + suc j = omega arith in z)))
      ∙ sym (total_first n (λ j. names s (load rec (a + j))))

  pub heads_count : (c : Contents) (t : ℕ)
      → occurrences s (locals HEAD_WORDS (drop QUEUE_HEADS (c.recs t))) ≡ names_at c s t 16 + names_at c s t 20 + names_at c s t 24 + names_at c s t 28
  unfolding names_at total word
  heads_count c t = locals_count 16 16 (c.recs t) ∙ omega arith

  pub tails_count : (c : Contents) (t : ℕ) → occurrences s (locals TAIL_WORDS (drop TAILS (c.recs t))) ≡ names_at c s t 32 + names_at c s t 36 + names_at c s t 40
  unfolding names_at total word
  tails_count c t = locals_count 12 32 (c.recs t) ∙ omega arith
