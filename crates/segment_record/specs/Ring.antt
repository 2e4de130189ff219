-- What storing a run of values and dropping one do to the record of a segment.
use Rattle.std.specs.Prelude.{ℕ, ◌+◌, ◌-◌}
use Rattle.segment_record.specs.declared.Record.{Record}

-- "A push into a segment raises the count in that segment's own record."
abbrev pub more : Record → ℕ → Record
more r k = record { first = r.first; count = r.count + k; next = r.next }

-- the first value gone: the value at place p is the first now
abbrev pub one_fewer : Record → ℕ → Record
one_fewer r p = record { first = p; count = r.count - 1; next = r.next }
