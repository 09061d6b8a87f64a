-- Names that are too long.
use Rattle.std.proofs.Common.{◌≡◌, ℕ, zero, suc, ◌<◌, List, [], ◌∷◌, length, get_or, map, subst, inl, arith}
use Rattle.std.specs.List.{Contains, flat_map}
use Rattle.std.specs.String.{string_bytes}
use Rattle.std.proofs.lemmas.List.Elements.{Contains-append_left, Contains-append_right}
use Rattle.link_parts.specs.declared.part.Part.{Part}
use Rattle.link_parts.specs.declared.fault.LinkFault.{LinkFault}
use Rattle.link_parts.specs.declared.fault.LinkFault.TheVariants as fault
use Rattle.link_parts.specs.Fitting.{names_of, IsOfNames}
use Rattle.link_parts.specs.Linked.{IsFault}

-- These names are among others.
abbrev pub Within : List (List ℕ) → List (List ℕ) → Type 0
Within names others = (n : List ℕ) → Contains names n → Contains others n

-- A name that is too long is one among more names.
pub of_more : (names others : List (List ℕ)) (e : LinkFault) → Within names others → IsOfNames names e
    → IsOfNames others e
of_more names others fault.NoMemory w i = i
of_more names others fault.NoProgram w i = absurd i
of_more names others (fault.Program n) w i = absurd i
of_more names others (fault.Interfaces m n name) w i = absurd i
of_more names others (fault.Imports n) w i = (i.0, (i.1.0, w i.1.0 i.1.1, i.1.2))
of_more names others (fault.Pages n) w i = absurd i

-- behind the name of a module stand those of its imports
pub imports_within : (p : Part) → Within (map string_bytes p.imports.items) (names_of p)
imports_within p n c = (suc c.0, let l = c.1 in omega (arith, l), c.2)

-- the names of the module in this place
pub part_within : (parts : List Part) (k : ℕ) (p : Part) → k < length parts → p ≡ get_or parts k p
    → Within (names_of p) (flat_map names_of parts)
part_within [] k p l e n c = absurd (omega (arith, l))
part_within (x ∷ xs) zero p l e n c = Contains-append_left (names_of x) (flat_map names_of xs) n
    (subst (λ (q : Part). Contains (names_of q) n) e c)
part_within (x ∷ xs) (suc k) p l e n c =
    Contains-append_right (names_of x) (flat_map names_of xs) n (part_within xs k p (omega (arith, l)) e n c)

-- Modules with such a name are not linked.
pub names_fault : (parts : List Part) (pages : ℕ) (e : LinkFault) → IsOfNames (flat_map names_of parts) e
    → IsFault parts pages e
names_fault parts pages fault.NoMemory h = tt
names_fault parts pages fault.NoProgram h = absurd h
names_fault parts pages (fault.Program n) h = absurd h
names_fault parts pages (fault.Interfaces m n name) h = absurd h
names_fault parts pages (fault.Imports n) h = inl h
names_fault parts pages (fault.Pages n) h = absurd h
