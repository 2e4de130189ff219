-- All local heads and tails are segments opened exactly where each word of a view that is below NL is one.
use Rattle.std.specs.Prelude.{◌≡◌, refl, List, [], ◌∷◌, ℕ, ◌+◌, ◌<◌, ◌≤◌, drop}
use Rattle.std.proofs.Common.{ap, ◌∙◌, ⊎_elim, arith, eq-zero-or-pos}
use Rattle.std.proofs.Math.Path.{sym}
use Rattle.spec_words.specs.Words.{load}
use Rattle.spec_lists.specs.Counting.{occurrences, over, equal?, occurs_nil, occurs_cons, occurs_here, occurs_past}
use Rattle.spec_layout.specs.Layout.{NL, QUEUE_HEADS, TAILS, HEAD_WORDS, TAIL_WORDS}
use Rattle.spec_tree.specs.Tour.{entered}
use Rattle.spec_rules.specs.Contents.{Contents, word, locals, heads, tails}
use Rattle.spec_rules.specs.Rules.{Holder}
use Rattle.law_rules_views.specs.Members.{load_drop, local_in, in_local}
use Rattle.law_rules_views.specs.Toured.{Toured, over_heads, over_tails, holder_entered, entered_holder}

over_term : (xs : List ℕ) (g : ℕ → ℕ) (x : ℕ) → 0 < occurrences x xs → g x ≤ over xs g
unfolding over
over_term [] g x p = let a = occurs_nil x in let z : ⊥ = omega (arith, a, p) in absurd z
over_term (y ∷ ys) g x p =
    ⊎_elim
    (λ e. let a = ap g e in omega (arith, a))
    (λ n. let a = over_term ys g x (let b = occurs_past y x ys n in omega (arith, b, p)) in omega (arith, a))
    (equal? y x)

over_some : (xs : List ℕ) (g : ℕ → ℕ) → 0 < over xs g → (x : ℕ) × (0 < occurrences x xs) × (0 < g x)
unfolding over
over_some [] g p = let z : ⊥ = omega arith in absurd z
over_some (y ∷ ys) g p =
    ⊎_elim
    (λ e. later (over_some ys g (omega (arith, e, p))))
    (λ h. (y, let a = occurs_here y y ys refl in omega (arith, a), h))
    (eq-zero-or-pos (g y))
  where
    later : (x : ℕ) × (0 < occurrences x ys) × (0 < g x) → (x : ℕ) × (0 < occurrences x (y ∷ ys)) × (0 < g x)
    later w = let l = w.1 in (w.0, let a = occurs_cons y w.0 ys in omega (arith, a, l), w.2)

module _ (c : Contents) where
  -- all numbers of a list are segments opened
  abbrev pub AllOpened : List ℕ → Type 0
  AllOpened xs = (s : ℕ) → 0 < occurrences s xs → s < c.number

  -- so are the n words from i on of each holder that are below NL
  abbrev pub Fit : ℕ → ℕ → Type 0
  Fit i n = (t j : ℕ) → Holder c t → j < n → word c t (i + j) < NL → word c t (i + j) < c.number

  listed : (t i n j : ℕ) → j < n → word c t (i + j) < NL → 0 < occurrences (word c t (i + j)) (locals n (drop i (c.recs t)))
  unfolding word
  listed t i n j l p = rw e at (local_in n (drop i (c.recs t)) j l (omega (arith, e, p)))
    where
      e : load (drop i (c.recs t)) j ≡ load (c.recs t) (i + j)
      e = load_drop (c.recs t) i j

  below : (i n : ℕ) → Fit i n → (t s : ℕ) → Holder c t → 0 < occurrences s (locals n (drop i (c.recs t))) → s < c.number
  unfolding word
  below i n f t s h p =
      let w = in_local n (drop i (c.recs t)) s p in
      let j = w.1.0 in
      let e = sym (load_drop (c.recs t) i j) ∙ w.1.2 in
      let a = w.0 in
      let b = f t j h w.1.1 (omega (arith, e, a)) in
      omega (arith, e, b)

  module _ (xs : List ℕ) (w : Toured c xs) where
    -- a list l made of the n words from i on of each task that is entered
    module _ (i n : ℕ) (l : List ℕ) (made : (s : ℕ) → occurrences s l ≡ over (entered xs) (λ y. occurrences s (locals n (drop i (c.recs y))))) where
      opened_fit : AllOpened l → Fit i n
      opened_fit f t j h k p =
          f (word c t (i + j))
          (let a = made (word c t (i + j)) in
          let b = over_term (entered xs) (λ y. occurrences (word c t (i + j)) (locals n (drop i (c.recs y)))) t (holder_entered c xs w t h) in
          let d = listed t i n j k p in
          omega (arith, a, b, d))

      fit_opened : Fit i n → AllOpened l
      fit_opened f s p =
          let a = made s in
          let v = over_some (entered xs) (λ y. occurrences s (locals n (drop i (c.recs y)))) (omega (arith, a, p)) in
          below i n f v.0 s (entered_holder c xs w v.0 v.1) v.2

    pub heads_fit : AllOpened (heads c (entered xs)) → Fit QUEUE_HEADS HEAD_WORDS
    heads_fit = opened_fit QUEUE_HEADS HEAD_WORDS (heads c (entered xs)) (λ s. over_heads c s (entered xs))

    pub tails_fit : AllOpened (tails c (entered xs)) → Fit TAILS TAIL_WORDS
    tails_fit = opened_fit TAILS TAIL_WORDS (tails c (entered xs)) (λ s. over_tails c s (entered xs))

    pub fit_heads : Fit QUEUE_HEADS HEAD_WORDS → AllOpened (heads c (entered xs))
    fit_heads = fit_opened QUEUE_HEADS HEAD_WORDS (heads c (entered xs)) (λ s. over_heads c s (entered xs))

    pub fit_tails : Fit TAILS TAIL_WORDS → AllOpened (tails c (entered xs))
    fit_tails = fit_opened TAILS TAIL_WORDS (tails c (entered xs)) (λ s. over_tails c s (entered xs))
