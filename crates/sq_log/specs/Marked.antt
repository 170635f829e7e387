-- The window of a log machine, by the indices of its bytes.
use Rattle.std.specs.Prelude.{◌+◌, ℕ, List}
use Rattle.sq_log.specs.Windows.{Rest, between}
use Rattle.sq_log.specs.declared.marked_bytes.MarkedBytes.{MarkedBytes}

-- the unfinished line, as far as it was looked at
abbrev pub front_of : MarkedBytes → List ℕ
front_of marked = between marked.begin marked.at marked.bytes

-- the bytes that were not yet looked at
abbrev pub waiting_of : MarkedBytes → List ℕ
waiting_of marked = between marked.at (65 + marked.count) marked.bytes

abbrev pub rest_of : MarkedBytes → Rest
rest_of marked = record { line = front_of marked; waiting = waiting_of marked }
