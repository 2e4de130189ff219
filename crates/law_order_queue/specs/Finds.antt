-- WHAT THE TIMELINE SAYS: what a task finds, and what is left.
use Rattle.std.specs.Prelude.{◌≡◌, Bool, true, ℕ, zero, suc, ◌+◌, ◌≤◌, eqb, drop}
use Rattle.std.proofs.Math.Path.{refl, ap}
use Rattle.std.proofs.Common.{ap₂, sym, ◌∙◌, ⊎_elim, arith, eq-eqb, ne_eqb}
use Rattle.std.proofs.Math.Bool.{false}
use Rattle.std.proofs.lemmas.Bool.{false≢true}
use mathlib.Core.List.{List, [], ◌∷◌, ◌++◌, append_assoc, tail-eq_of_cons-eq}
use Rattle.std.proofs.Math.Option.{Option, none, some}
use Rattle.std.proofs.Math.ListN.{length}
use Rattle.spec_words.specs.Words.{pick, pass, halt, either, either_true, true_left}
use Rattle.spec_lists.specs.Counting.{one_yes, one_true}
use Rattle.spec_tree.specs.Rights.{pushes as mayPush, pops as mayPop, uses}
use Rattle.spec_answers.specs.declared.Finding.TheVariants.{Empty, Waits}
use Rattle.spec_order.specs.Steps.{Task, Item, step, spot, number_of, rights_of}
use Rattle.spec_order.specs.Waits.{some_spot}
use Rattle.spec_order.specs.Finding.{before, Pending, pending, Run, run, runs, found, value_number, pending_of, left_over}
use Rattle.law_order.specs.Count.{count, spot_numbered, count_append}
use Rattle.spec_tree.specs.Users.{uses_pushes, useless_pushes, pops_uses}
use Rattle.law_order_queue.specs.Points.{Point, value, user, values, added, along, pop_count, NoPopper, Timeline}
use Rattle.law_order_queue.specs.Balance.{added_one, pops_append, covers_front, late_behind}
use Rattle.law_order_queue.specs.Pending.{flags, flagged, flag_after, runs_is}
use Rattle.law_order_queue.specs.Found.{Front, front, first_of, found_first, found_nothing, found_held}
use Rattle.law_order_queue.specs.Steps.{user_count, users_append, along_users, located}

-- WHAT A TASK FINDS, where no popper stands before it, is at the front of the timeline.
before_is : (t : ℕ) (ys zs : List Item) (s : Task) → number_of s ≡ t → count (spot_numbered t) ys ≡ 0 → before t (ys ++ spot s ∷ zs) ≡ ys
unfolding before count spot_numbered
before_is t [] zs s e h = halt _ _ (eq-eqb (number_of s) t e)
before_is t (step p a ∷ ys) zs s e h = ap (λ (l : List Item). step p a ∷ l) (before_is t ys zs s e (omega (arith, h)))
before_is t (spot o ∷ ys) zs s e h =
    pass _ (none (eqb (number_of o) t) refl) (ap (λ (l : List Item). spot o ∷ l) (before_is t ys zs s e (omega (arith, h))))
  where
    none : (b : Bool) → eqb (number_of o) t ≡ b → eqb (number_of o) t ≡ false
    none true d = let a = one_true d in let z : ⊥ = omega (arith, a, h) in absurd z
    none false d = d

by_front : (q t : ℕ) (ys : List Item) (vs : List ℕ) (a b : List Point) (r : Run) → count (spot_numbered t) ys ≡ 0 → along q ys ≡ values vs ++ a → Front a r
    → found r ≡ first_of t (a ++ user t ∷ b)
unfolding first_of user_count
by_front q t ys vs [] b r c e f = found_nothing f ∙ sym (halt _ _ (eq-eqb t t refl))
by_front q t ys vs (value v ∷ a) b r c e f = found_first f
by_front q t ys vs (user w ∷ a) b r c e f = found_held f ∙ sym (pass _ (ne_eqb w t other) refl)
  where
    other : w ≡ t → ⊥
    other d =
        let g = along_users q t ys in
        let h = ap (user_count t) e ∙ users_append t (values vs) (user w ∷ a) in
        let i = one_yes w t d in
        omega (arith, c, g, h, i)

module _ (q : ℕ) (ys zs : List Item) (s : Task) (single : count (spot_numbered (number_of s)) (ys ++ spot s ∷ zs) ≤ 1) where
  pub finds : {ps : List Point} → mayPop (rights_of s) q ≡ true → NoPopper q ys → Timeline q (ys ++ spot s ∷ zs) ps
      → found (runs q (before (number_of s) (ys ++ spot s ∷ zs)) (run false [])) ≡ first_of (number_of s) ps
  unfolding pop_count count spot_numbered
  finds {ps} m n h =
      let t = number_of s in
      let none = (late_behind q ys (spot s ∷ zs) h.late).0 m in
      let e = pops_append q ys (spot s ∷ zs) in
      let d = h.many in
      let c = count_append (spot_numbered t) ys (spot s ∷ zs) in
      let f = one_yes t t refl in
      let w = located q ys zs s (pops_uses (rights_of s) q m) h in
      let all : pop_count q ys ≡ length h.popped = omega (arith, none, e, d) in
      let few : count (spot_numbered t) ys ≡ 0 = omega (arith, c, f, single) in
      ap (λ (l : List Item). found (runs q l (run false []))) (before_is t ys zs s refl few)
      ∙ ap found (runs_is q ys false [] (covers_front q 0 ys (spot s ∷ zs) h.covers))
      ∙ ap (λ (k : ℕ). found (run (flag_after q false ys) (drop k (flagged q false ys)))) all
      ∙ by_front q t ys h.popped w.0 (along q zs) _ few w.1 (front q ys h.popped w.0 n w.1)
      ∙ ap (first_of t) (sym w.2)

-- WHAT IS LEFT: value number i of the timeline, spots passed over.
unfoldable pub nth_value : ℕ → List Point → Option ℕ
nth_value i [] = none
nth_value i (user t ∷ ps) = nth_value i ps
nth_value zero (value v ∷ ps) = some v
nth_value (suc i) (value v ∷ ps) = nth_value i ps

pub nth_behind : (vs : List ℕ) (i : ℕ) (ps : List Point) → nth_value (length vs + i) (values vs ++ ps) ≡ nth_value i ps
unfolding nth_value
nth_behind [] i ps = ap (λ (n : ℕ). nth_value n ps) (let z : 0 + i ≡ i = omega arith in z)
nth_behind (v ∷ vs) i ps =
    ap (λ (n : ℕ). nth_value n (value v ∷ (values vs ++ ps))) (let z : suc (length vs) + i ≡ suc (length vs + i) = omega arith in z) ∙ nth_behind vs i ps

number_behind : (n i : ℕ) (vs : List Pending) → value_number i (drop n vs) ≡ value_number (n + i) vs
unfolding value_number
number_behind zero i vs = ap (λ (n : ℕ). value_number n vs) (let z : i ≡ 0 + i = omega arith in z)
number_behind (suc n) i [] = refl
number_behind (suc n) i (pending v b ∷ vs) =
    number_behind n i vs ∙ ap (λ (n : ℕ). value_number n (pending v b ∷ vs)) (let z : suc (n + i) ≡ suc n + i = omega arith in z)

number_along : (q i : ℕ) (b : Bool) (xs : List Item) → value_number i (flagged q b xs) ≡ nth_value i (along q xs)
unfolding flagged along value_number nth_value flags pick
number_along q i b [] = refl
number_along q i b (step p a ∷ xs) = ⊎_elim (nil (number_along q i b xs)) (one_more i (λ j. number_along q j b xs)) (added_one q a)
  where
    nil : value_number i (flagged q b xs) ≡ nth_value i (along q xs) → added q a ≡ [] → value_number i (flags b (added q a) ++ flagged q b xs) ≡ nth_value i
        (added q a ++ along q xs)
    nil h e = rw e h

    one_more : (i : ℕ) → ((j : ℕ) → value_number j (flagged q b xs) ≡ nth_value j (along q xs)) → (v : ℕ) × (added q a ≡ value v ∷ [])
        → value_number i (flags b (added q a) ++ flagged q b xs) ≡ nth_value i (added q a ++ along q xs)
    one_more zero h w = rw w.1 refl
    one_more (suc i) h w = rw w.1 (h i)
number_along q i b (spot s ∷ xs) = go (uses (rights_of s) q) (number_along q i (either b (mayPush (rights_of s) q)) xs)
  where
    go : (d : Bool) → value_number i (flagged q (either b (mayPush (rights_of s) q)) xs) ≡ nth_value i (along q xs)
        → value_number i (flagged q (either b (mayPush (rights_of s) q)) xs) ≡ nth_value i (pick d (user (number_of s) ∷ along q xs) (along q xs))
    go true h = h
    go false h = h

pub leaves : (q i : ℕ) (xs : List Item) (ps : List Point) → Timeline q xs ps → left_over q i xs ≡ nth_value i ps
unfolding left_over pending_of
leaves q i xs ps h =
    ap (λ (r : Run). value_number i (pending_of r)) (runs_is q xs false [] h.covers)
    ∙ number_behind (pop_count q xs) i (flagged q false xs)
    ∙ number_along q (pop_count q xs + i) false xs
    ∙ ap₂ (λ (n : ℕ) (l : List Point). nth_value (n + i) l) h.many h.parts
    ∙ nth_behind h.popped i ps

-- WHERE NO VALUE IS AT THE FRONT: the task waits exactly where a pusher's spot stands before its own.
abbrev pub NoValueFirst : List Point → Type 0
NoValueFirst ps = (v : ℕ) (rs : List Point) → ps ≡ value v ∷ rs → ⊥

no_users : (q : ℕ) (xs : List Item) → NoPopper q xs → some_spot (λ o. mayPush (rights_of o) q) xs ≡ false → (t : ℕ) (ps rs : List Point)
    → along q xs ≡ ps ++ user t ∷ rs → ⊥
unfolding along some_spot
no_users q [] n e t ps rs d = nil ps d
  where
    nil : (ps : List Point) → [] ≡ ps ++ user t ∷ rs → ⊥
    nil [] d = let z : ◌≡◌ {A = ℕ} 0 1 = cc in omega (arith, z)
    nil (p ∷ ps) d = let z : ◌≡◌ {A = ℕ} 0 1 = cc in omega (arith, z)
no_users q (step p a ∷ xs) n e t ps rs d =
    ⊎_elim (λ f. no_users q xs n e t ps rs (ap (λ (l : List Point). l ++ along q xs) (sym f) ∙ d))
    (λ w. more w.0 ps (ap (λ (l : List Point). l ++ along q xs) (sym w.1) ∙ d) (λ k f. no_users q xs n e t k rs f)) (added_one q a)
  where
    more : (v : ℕ) (ps : List Point) → value v ∷ along q xs ≡ ps ++ user t ∷ rs → ((k : List Point) → along q xs ≡ k ++ user t ∷ rs → ⊥) → ⊥
    more v [] f rest = let z : ◌≡◌ {A = ℕ} 0 1 = cc in omega (arith, z)
    more v (p ∷ ps) f rest = rest ps (tail-eq_of_cons-eq f)
no_users q (spot s ∷ xs) n e t ps rs d =
    no_users q xs n.1 (later_none e) t ps rs (sym (pass _ none refl) ∙ d)
  where
    later_none : either (mayPush (rights_of s) q) (some_spot (λ o. mayPush (rights_of o) q) xs) ≡ false → some_spot (λ o. mayPush (rights_of o) q) xs ≡ false
    later_none f = go (mayPush (rights_of s) q) f
      where
        go : (b : Bool) → either b (some_spot (λ o. mayPush (rights_of o) q) xs) ≡ false → some_spot (λ o. mayPush (rights_of o) q) xs ≡ false
        go true f = unfold either pick in absurd (false≢true (sym f))
        go false f = unfold either pick in f

    quiet : mayPush (rights_of s) q ≡ false
    quiet = go (mayPush (rights_of s) q) refl e
      where
        go : (b : Bool) → mayPush (rights_of s) q ≡ b → either (mayPush (rights_of s) q) (some_spot (λ o. mayPush (rights_of o) q) xs) ≡ false
            → mayPush (rights_of s) q ≡ false
        go true f g = absurd (false≢true (sym g ∙ true_left _ f))
        go false f g = f

    none : uses (rights_of s) q ≡ false
    none = go (uses (rights_of s) q) refl
      where
        go : (b : Bool) → uses (rights_of s) q ≡ b → uses (rights_of s) q ≡ false
        go true f = absurd (false≢true (sym quiet ∙ uses_pushes (rights_of s) q f n.0))
        go false f = f

some_user : (q : ℕ) (xs : List Item) → some_spot (λ o. mayPush (rights_of o) q) xs ≡ true
    → (t : ℕ) × (ps : List Point) × (rs : List Point) × (along q xs ≡ ps ++ user t ∷ rs)
unfolding along some_spot
some_user q [] e = absurd (false≢true e)
some_user q (step p a ∷ xs) e =
    let w = some_user q xs e in
    (w.0, added q a ++ w.1, w.2, ap (λ (l : List Point). added q a ++ l) w.3 ∙ sym (append_assoc (added q a) w.1 (user w.0 ∷ w.2)))
some_user q (spot s ∷ xs) e = go (uses (rights_of s) q) refl (some_user q xs)
  where
    go : (b : Bool) → uses (rights_of s) q ≡ b
        → (some_spot (λ o. mayPush (rights_of o) q) xs ≡ true → (t : ℕ) × (ps : List Point) × (rs : List Point) × (along q xs ≡ ps ++ user t ∷ rs))
        → (t : ℕ) × (ps : List Point) × (rs : List Point) × (pick (uses (rights_of s) q) (user (number_of s) ∷ along q xs) (along q xs) ≡ ps ++ user t ∷ rs)
    go true f rest = (number_of s, [], along q xs, halt _ _ f)
    go false f rest =
        let w = rest (⊎_elim (λ d. absurd (false≢true (sym (useless_pushes (rights_of s) q f) ∙ d))) (λ d. d) (either_true _ _ e)) in
        (w.0, w.1, w.2, pass _ f w.3)

module _ (q : ℕ) (ys zs : List Item) (s : Task) (single : count (spot_numbered (number_of s)) (ys ++ spot s ∷ zs) ≤ 1) where
  pub finds_none : {ps : List Point} → mayPop (rights_of s) q ≡ true → NoPopper q ys → Timeline q (ys ++ spot s ∷ zs) ps → NoValueFirst ps
      → first_of (number_of s) ps ≡ pick (some_spot (λ o. mayPush (rights_of o) q) ys) Waits Empty
  unfolding first_of count spot_numbered user_count
  finds_none {ps} m n h bare =
      let w = located q ys zs s (pops_uses (rights_of s) q m) h in
      ap (first_of (number_of s)) w.2
      ∙ go w.0 w.1 (λ v rs e. bare v (rs ++ user (number_of s) ∷ along q zs) (w.2 ∙ ap (λ (l : List Point). l ++ user (number_of s) ∷ along q zs) e))
      (some_spot (λ o. mayPush (rights_of o) q) ys) refl
    where
      few : count (spot_numbered (number_of s)) ys ≡ 0
      few = let c = count_append (spot_numbered (number_of s)) ys (spot s ∷ zs) in let f = one_yes (number_of s) (number_of s) refl in omega (arith, c, f, single)

      behind : (vs : List ℕ) (a ps rs : List Point) (t : ℕ) → values vs ++ a ≡ ps ++ user t ∷ rs → (l : List Point) × (a ≡ l ++ user t ∷ rs)
      behind [] a ps rs t e = (ps, e)
      behind (v ∷ vs) a [] rs t e = let z : ◌≡◌ {A = ℕ} 0 1 = cc in absurd (omega (arith, z))
      behind (v ∷ vs) a (p ∷ ps) rs t e = behind vs a ps rs t (tail-eq_of_cons-eq e)

      other : (a : List Point) (u : ℕ) (rs : List Point) → along q ys ≡ values h.popped ++ user u ∷ rs → u ≡ number_of s → ⊥
      other a u rs e d =
          let g = along_users q (number_of s) ys in
          let i = ap (user_count (number_of s)) e ∙ users_append (number_of s) (values h.popped) (user u ∷ rs) in
          let j = one_yes u (number_of s) d in
          let f = few in
          omega (arith, f, g, i, j)

      go : (a : List Point) → along q ys ≡ values h.popped ++ a → NoValueFirst a → (b : Bool) → some_spot (λ o. mayPush (rights_of o) q) ys ≡ b
          → first_of (number_of s) (a ++ user (number_of s) ∷ along q zs) ≡ pick (some_spot (λ o. mayPush (rights_of o) q) ys) Waits Empty
      go [] e f false d = halt _ _ (eq-eqb (number_of s) (number_of s) refl) ∙ sym (pass _ d refl)
      go [] e f true d =
          let w = some_user q ys d in
          let k = behind h.popped [] w.1 w.2 w.0 (sym e ∙ w.3) in
          absurd (nothing_there w.0 w.2 k.0 k.1)
        where
          nothing_there : (u : ℕ) (rs l : List Point) → [] ≡ l ++ user u ∷ rs → ⊥
          nothing_there u rs [] i = let z : ◌≡◌ {A = ℕ} 0 1 = cc in omega (arith, z)
          nothing_there u rs (p ∷ l) i = let z : ◌≡◌ {A = ℕ} 0 1 = cc in omega (arith, z)
      go (value v ∷ a) e f b d = absurd (f v a refl)
      go (user u ∷ a) e f true d = pass _ (ne_eqb u (number_of s) (other a u a e)) refl ∙ sym (halt _ _ d)
      go (user u ∷ a) e f false d = absurd (no_users q ys n d u (values h.popped) a e)
