-- Each child that was made has its course in one piece, between the spawn and an item of the spawner.
use Rattle.std.specs.Prelude.{◌≡◌, refl, List, [], ◌∷◌, ◌++◌, ℕ, ◌+◌}
use Rattle.std.proofs.Common.{ap, sym, ◌∙◌, subst, append_assoc, inl, inr, ⊎_elim, arith}
use Rattle.spec_order.specs.Steps.{Name, Item, step, spawns}
use Rattle.law_order.specs.Names.{Under}
use Rattle.law_order.specs.Items.{In, in_parts, Free, whose, steps_of, children_of, spawns_in, children_append}
use Rattle.law_order.specs.Courses.{Course, forks, items}
use Rattle.law_order.specs.Kin.{kin, kin_apart, first}

-- spawn number j of p (from 0) made c
pub record Spawned (p c : Name) (j : ℕ) (xs : List Item) : Type 0 where
  pub before : List Item
  pub number : ℕ
  pub rights : ℕ
  pub course : Course
  pub next : Item
  pub behind : List Item
  pub parts : xs ≡ before ++ step p (spawns number rights) ∷ (items c number rights 0 course ++ next ∷ behind)
  pub nth : children_of p before ≡ j
  pub free_before : Free c before
  pub free_behind : Free c behind
  pub mine : whose next ≡ p

pub free_append : (c : Name) (xs ys : List Item) → Free c xs → Free c ys → Free c (xs ++ ys)
free_append c xs ys f g x h = ⊎_elim (f x) (g x) (in_parts x xs ys h)

pub free_one : (c : Name) (y : Item) → (Under c (whose y) → ⊥) → Free c (y ∷ [])
free_one c y n x (inl e) u = n (subst (λ (z : Item). Under c (whose z)) e u)
free_one c y n x (inr h) u = h

-- with other items in front
pub front : (p c : Name) (m j n : ℕ) (zs xs : List Item) → children_of p zs ≡ m → n ≡ m + j → Free c zs → Spawned p c j xs → Spawned p c n (zs ++ xs)
front p c m j n zs xs e d f b =
    record {
      before = zs ++ b.before;
      number = b.number;
      rights = b.rights;
      course = b.course;
      next = b.next;
      behind = b.behind;
      parts = ap (λ (l : List Item). zs ++ l) b.parts ∙ sym (append_assoc zs b.before _);
      nth = let a = children_append p zs b.before in let i = b.nth in omega (arith, a, i, e, d);
      free_before = free_append c zs b.before f b.free_before;
      free_behind = b.free_behind;
      mine = b.mine;
    }

-- with other items behind
pub back : (p c : Name) (j : ℕ) (xs zs : List Item) → Free c zs → Spawned p c j xs → Spawned p c j (xs ++ zs)
back p c j xs zs f b =
    record {
      before = b.before;
      number = b.number;
      rights = b.rights;
      course = b.course;
      next = b.next;
      behind = b.behind ++ zs;
      parts =
          ap (λ (l : List Item). l ++ zs) b.parts
          ∙ append_assoc b.before (step p (spawns b.number b.rights) ∷ (items c b.number b.rights 0 b.course ++ b.next ∷ b.behind)) zs
          ∙ ap (λ (l : List Item). b.before ++ step p (spawns b.number b.rights) ∷ l)
          (append_assoc (items c b.number b.rights 0 b.course) (b.next ∷ b.behind) zs);
      nth = b.nth;
      free_before = b.free_before;
      free_behind = free_append c b.behind zs b.free_behind f;
      mine = b.mine;
    }

-- the child that a spawn makes now
pub here : (p : Name) (t r k c s : ℕ) (v w : Course) → Spawned p (k ∷ p) 0 (items p t r k (forks c s v w))
unfolding items children_of steps_of spawns_in
here p t r k c s v w =
    let f = first p t r (k + 1) w in
    record {
      before = [];
      number = c;
      rights = s;
      course = v;
      next = f.0;
      behind = f.1;
      parts = ap (λ (l : List Item). step p (spawns c s) ∷ (items (k ∷ p) c s 0 v ++ l)) f.2;
      nth = refl;
      free_before = λ x h u. h;
      free_behind = λ x h. kin_apart p k (whose x) (kin p t r (k + 1) w x (subst (In x) (sym f.2) (inr h)));
      mine = f.3;
    }
