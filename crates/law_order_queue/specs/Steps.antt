-- THE TIMELINE UNDER STEPS: what each step of a task does to it. The steps and spots are ys ++ spot s ∷ zs.
use Rattle.std.specs.Prelude.{◌≡◌, refl, Bool, true, false, ℕ, ◌+◌, ◌≤◌, eqb}
use Rattle.std.proofs.Math.Path.{ap}
use Rattle.std.proofs.Common.{ap₂, sym, ◌∙◌, ⊎_elim, arith}
use mathlib.Core.List.{List, [], ◌∷◌, ◌++◌, append_assoc, head-eq_of_cons-eq, tail-eq_of_cons-eq}
use Rattle.spec_words.specs.Words.{pick, halt}
use Rattle.spec_lists.specs.Counting.{one, one_yes}
use Rattle.spec_tree.specs.Rights.{uses}
use Rattle.spec_order.specs.Steps.{Task, Item, step, spot, Act, number_of, rights_of}
use Rattle.law_order.specs.Count.{count, spot_numbered}
use Rattle.law_order_queue.specs.Points.{Point, value, user, values, added, along, pop_count, Late, Timeline}
use Rattle.law_order_queue.specs.Balance.{added_one, along_append, pops_append, balance, covers_append, covers_front, covers_behind, covers_more}
use Rattle.law_order_queue.specs.Balance.{covers_still, late_behind, late_replace}

apart : {v t : ℕ} → value v ≡ user t → ⊥
apart e = let z : ◌≡◌ {A = ℕ} 0 1 = cc in omega arith

-- how often task t stands among points
unfoldable pub user_count : ℕ → List Point → ℕ
user_count t [] = 0
user_count t (value v ∷ ps) = user_count t ps
user_count t (user u ∷ ps) = one (eqb u t) + user_count t ps

pub users_append : (t : ℕ) (ps rs : List Point) → user_count t (ps ++ rs) ≡ user_count t ps + user_count t rs
unfolding user_count
users_append t [] rs = omega arith
users_append t (value v ∷ ps) rs = users_append t ps rs
users_append t (user u ∷ ps) rs = let e = users_append t ps rs in omega (arith, e)

-- two ways to part a list at task t, where it stands once
one_way : (t : ℕ) (a b c d : List Point) → user_count t (a ++ user t ∷ b) ≤ 1 → a ++ user t ∷ b ≡ c ++ user t ∷ d → (a ≡ c) × (b ≡ d)
unfolding user_count
one_way t [] b [] d h e = (refl, tail-eq_of_cons-eq e)
one_way t [] b (x ∷ c) d h e =
    let f = ap (user_count t) (tail-eq_of_cons-eq e) in
    let g = users_append t c (user t ∷ d) in
    let i = one_yes t t refl in
    let z : ⊥ = omega (arith, f, g, h, i) in
    absurd z
one_way t (x ∷ a) b [] d h e =
    let y : x ≡ user t = head-eq_of_cons-eq e in
    let g = users_append t a (user t ∷ b) in
    let i = one_yes t t refl in
    let j : user_count t (x ∷ (a ++ user t ∷ b)) ≡ one (eqb t t) + user_count t (a ++ user t ∷ b) = ap (λ (p : Point). user_count t (p ∷ (a ++ user t ∷ b))) y in
    let z : ⊥ = omega (arith, g, h, i, j) in
    absurd z
one_way t (x ∷ a) b (y ∷ c) d h e =
    let w = one_way t a b c d (fewer x h) (tail-eq_of_cons-eq e) in
    (ap₂ (λ (p : Point) (l : List Point). p ∷ l) (head-eq_of_cons-eq e) w.0, w.1)
  where
    fewer : (x : Point) → user_count t (x ∷ (a ++ user t ∷ b)) ≤ 1 → user_count t (a ++ user t ∷ b) ≤ 1
    fewer (value v) h = h
    fewer (user u) h = omega (arith, h)

added_users : (q t : ℕ) (a : Act) → user_count t (added q a) ≡ 0
unfolding user_count
added_users q t a = ⊎_elim (λ e. ap (user_count t) e) (λ w. ap (user_count t) w.1) (added_one q a)

pub along_users : (q t : ℕ) (xs : List Item) → user_count t (along q xs) ≤ count (spot_numbered t) xs
unfolding along count spot_numbered user_count pick
along_users q t [] = omega arith
along_users q t (step p a ∷ xs) =
    let e = along_users q t xs in
    let f = users_append t (added q a) (along q xs) in
    let g = added_users q t a in
    omega (arith, e, f, g)
along_users q t (spot s ∷ xs) = go (uses (rights_of s) q) (along_users q t xs)
  where
    go : (b : Bool) → user_count t (along q xs) ≤ count (spot_numbered t) xs
        → user_count t (pick b (user (number_of s) ∷ along q xs) (along q xs)) ≤ one (eqb (number_of s) t) + count (spot_numbered t) xs
    go true e = omega (arith, e)
    go false e = omega (arith, e)

-- values in front are not parted by a task
behind_values : (vs : List ℕ) (t : ℕ) (l r ps : List Point) → l ++ user t ∷ r ≡ values vs ++ ps
    → (a : List Point) × (l ≡ values vs ++ a) × (ps ≡ a ++ user t ∷ r)
behind_values [] t l r ps e = (l, refl, sym e)
behind_values (v ∷ vs) t [] r ps e = absurd (apart (sym (head-eq_of_cons-eq e)))
behind_values (v ∷ vs) t (x ∷ l) r ps e =
    let w = behind_values vs t l r ps (tail-eq_of_cons-eq e) in
    (w.0, ap₂ (λ (p : Point) (l : List Point). p ∷ l) (head-eq_of_cons-eq e) w.1, w.2)

module _ (q : ℕ) (ys zs : List Item) (s : Task) where
  abbrev Here : List Item
  Here = ys ++ spot s ∷ zs

  along_here : uses (rights_of s) q ≡ true → along q Here ≡ along q ys ++ user (number_of s) ∷ along q zs
  unfolding along
  along_here u = along_append q ys (spot s ∷ zs) ∙ ap (λ (l : List Point). along q ys ++ l) (halt _ _ u)

  -- where the task stands in the timeline
  pub located : {ps : List Point} → uses (rights_of s) q ≡ true → (h : Timeline q Here ps)
      → (a : List Point) × (along q ys ≡ values h.popped ++ a) × (ps ≡ a ++ user (number_of s) ∷ along q zs)
  located {ps} u h = behind_values h.popped (number_of s) (along q ys) (along q zs) ps (sym (along_here u) ∙ h.parts)

  -- in one way only
  pub parted : (a b : List Point) → count (spot_numbered (number_of s)) Here ≤ 1 → uses (rights_of s) q ≡ true → (h : Timeline q Here (a ++ user (number_of s) ∷ b))
      → (along q ys ≡ values h.popped ++ a) × (along q zs ≡ b)
  parted a b c u h =
      let t = number_of s in
      let e : along q ys ++ user t ∷ along q zs ≡ (values h.popped ++ a) ++ user t ∷ b =
      sym (along_here u) ∙ h.parts ∙ sym (append_assoc (values h.popped) a (user t ∷ b)) in
      one_way t (along q ys) (along q zs) (values h.popped ++ a) b
      (let f = along_users q t Here in let g = ap (user_count t) (along_here u) in omega (arith, c, f, g)) e

  -- The items ms, which pop nothing, stand in place of the spot.
  pub replaced : {ps : List Point} (ms : List Item) (rs : List Point) (h : Timeline q Here ps) → pop_count q ms ≡ 0 → (Late q (spot s ∷ zs) → Late q (ms ++ zs))
      → along q (ys ++ (ms ++ zs)) ≡ values h.popped ++ rs → Timeline q (ys ++ (ms ++ zs)) rs
  unfolding pop_count
  replaced ms rs h none late parts =
      let still = covers_still q (balance q 0 ys) ms none in
      let a = pops_append q ys (spot s ∷ zs) in
      let b = pops_append q ys (ms ++ zs) in
      let c = pops_append q ms zs in
      let d = h.many in
      record {
        popped = h.popped;
        parts = parts;
        many = omega (arith, a, b, c, d, none);
        covers =
            covers_append q 0 ys (ms ++ zs) (covers_front q 0 ys (spot s ∷ zs) h.covers)
            (covers_append q (balance q 0 ys) ms zs still.0
            (covers_more q (balance q 0 ys) (balance q (balance q 0 ys) ms) zs still.1 (covers_behind q 0 ys (spot s ∷ zs) h.covers)));
        late = late_replace q ys (spot s ∷ zs) (ms ++ zs) (omega (arith, c, none)) (late (late_behind q ys (spot s ∷ zs) h.late)) h.late;
      }

  -- they are of the queue
  pub inserted : (a b : List Point) (ms : List Item) → count (spot_numbered (number_of s)) Here ≤ 1 → uses (rights_of s) q ≡ true
      → Timeline q Here (a ++ user (number_of s) ∷ b) → pop_count q ms ≡ 0 → (Late q (spot s ∷ zs) → Late q (ms ++ zs))
      → Timeline q (ys ++ (ms ++ zs)) (a ++ (along q ms ++ b))
  inserted a b ms c u h none late =
      let w = parted a b c u h in
      replaced ms (a ++ (along q ms ++ b)) h none late
      (along_append q ys (ms ++ zs)
      ∙ ap₂ (λ (k l : List Point). k ++ l) w.0 (along_append q ms zs ∙ ap (λ (l : List Point). along q ms ++ l) w.1)
      ∙ append_assoc (values h.popped) a (along q ms ++ b))

  -- they say of the queue what the spot said
  pub unchanged : {ps : List Point} (ms : List Item) → along q ms ≡ along q (spot s ∷ []) → Timeline q Here ps → pop_count q ms ≡ 0
      → (Late q (spot s ∷ zs) → Late q (ms ++ zs)) → Timeline q (ys ++ (ms ++ zs)) ps
  unchanged {ps} ms e h none late =
      replaced ms ps h none late
      (along_append q ys (ms ++ zs)
      ∙ ap (λ (l : List Point). along q ys ++ l)
      (along_append q ms zs ∙ ap (λ (l : List Point). l ++ along q zs) e ∙ sym (along_append q (spot s ∷ []) zs))
      ∙ sym (along_append q ys (spot s ∷ zs))
      ∙ h.parts)
