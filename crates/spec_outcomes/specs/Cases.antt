-- Cases that show what opens, where views go, when left answers, in which order calls are turned down, what a run finds and what a kept take leaves. The whole table is a crate
-- of its own.
use Rattle.std.specs.Prelude.{◌≡◌, refl, true, List, [], ◌∷◌}
use Rattle.spec_cases.specs.Starred.{longest, no_push}
use Rattle.spec_cases.specs.Traps.{parent_push, hidden}
use Rattle.spec_cases.specs.Waiting.{left_later}
use Rattle.spec_cases.specs.Refused.{not_allowed}
use Rattle.spec_cases.specs.Joining.{local_head, last_freed}
use Rattle.spec_cases.specs.Runs.{part_way, freed_on_the_way}
use Rattle.spec_cases.specs.Takes.{kept_value}
use Rattle.spec_outcomes.specs.Table.{lent, right, Placed, placed, leaves}

pub parent_push_right : right lent parent_push ≡ true
unfolding right
parent_push_right = refl

pub hidden_right : right lent hidden ≡ true
unfolding right
hidden_right = refl

pub local_head_right : right lent local_head ≡ true
unfolding right
local_head_right = refl

pub no_push_right : right lent no_push ≡ true
unfolding right
no_push_right = refl

pub not_allowed_right : right lent not_allowed ≡ true
unfolding right
not_allowed_right = refl

pub longest_right : right lent longest ≡ true
unfolding right
longest_right = refl

pub left_later_right : right lent left_later ≡ true
unfolding right
left_later_right = refl

-- 4 and 5 go to segments 4 and 0: the last freed first
abbrev pub last_freed_places : List Placed
last_freed_places = placed 0 5 ∷ placed 4 4 ∷ placed 5 3 ∷ []

pub last_freed_right : leaves lent last_freed last_freed_places ≡ true
unfolding leaves
last_freed_right = refl

-- 5 goes to segment 4, the link frees segment 0, and 6 goes there
pub freed_on_the_way_right : leaves lent freed_on_the_way (placed 4 5 ∷ placed 0 6 ∷ []) ≡ true
unfolding leaves
freed_on_the_way_right = refl

pub part_way_right : right lent part_way ≡ true
unfolding right
part_way_right = refl

pub kept_value_right : right lent kept_value ≡ true
unfolding right
kept_value_right = refl
