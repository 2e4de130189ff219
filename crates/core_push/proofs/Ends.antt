-- The two ends of a view that was read.
use mathlib.Core.Path.{◌≡◌, ap}
use mathlib.Core.List.{List}
use Prim.Native.Nat.{ℕ}
use Rattle.spec_layout.specs.Layout.{head, tail, read}
use Rattle.spec_outcomes.specs.Views.{view_of, head_of, tail_of}
use Rattle.views.specs.declared.View.{View}
use Rattle.views.specs.Ends.{seen}

pub user_head : {v : View} (m : List ℕ) (q t k : ℕ) → seen v ≡ view_of m q t k → v.head ≡ read m (head k t q)
unfolding view_of head_of
user_head m q t k e = ap head_of e

pub user_tail : {v : View} (m : List ℕ) (q t k : ℕ) → seen v ≡ view_of m q t k → v.tail ≡ read m (tail k t q)
unfolding view_of tail_of
user_tail m q t k e = ap tail_of e
