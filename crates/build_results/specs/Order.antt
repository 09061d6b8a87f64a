-- The order in which refusals are reported: by the names of their files, byte by byte, and as they
-- are found if these are equal.
use Rattle.std.specs.Prelude.{List, Bool}
use Rattle.std.specs.List.Sorted.{IsPermutation, IsSortedBy, IsStableBy}
use Rattle.std.specs.Ordering.{nat_cmp, is_lt}
use Rattle.std.specs.Cmp.Lexicographic.{slice_cmp}
use Rattle.std.specs.String.{string_bytes}
use Rattle.m2_tree.specs.declared.refusal.Refusal.{Refusal}

-- the name of the first one's file is less
abbrev pub is_before : Refusal → Refusal → Bool
is_before r s = is_lt (slice_cmp nat_cmp (string_bytes r.file) (string_bytes s.file))

pub record AreInOrder (found reported : List Refusal) : Type 0 where
  pub same : IsPermutation found reported
  pub sorted : IsSortedBy is_before reported
  pub stable : IsStableBy is_before found reported
