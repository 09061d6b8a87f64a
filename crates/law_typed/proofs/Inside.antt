-- What names mean inside a WITH.
use Rattle.std.proofs.Common.{◌≡◌, ℕ, List, length, Option, Some, None, Result, Ok, refl, sym, ap, subst, ◌∙◌}
use Rattle.std.specs.Prelude.{slice_get}
use Rattle.std.specs.Option.{option_map}
use Rattle.m2_tree.specs.declared.name.Ident.{Ident}
use Rattle.typed_tree.specs.declared.types.TypeNo.{TypeNo}
use Rattle.typed_tree.specs.declared.meaning.Meaning.{Meaning}
use Rattle.typed_tree.specs.declared.meaning.Meaning.TheVariants as meaning
use Rattle.typed_tree.specs.declared.meaning.OpenedField.{OpenedField}
use Rattle.typed_tree.specs.declared.shape.Shape.TheVariants as shape
use Rattle.typed_tree.specs.Names.{find_name, place_of}
use Rattle.check_scope.specs.declared.meaningless.Meaningless.{Meaningless}
use Rattle.check_scope.specs.declared.scope.OpenedRecord.{OpenedRecord}
use Rattle.check_scope.specs.declared.scope.Scope.{Scope}
use Rattle.check_scope.specs.Scopes.{or_outside, fields_at, field_numbered, field_among, means_as, means_or, sight_of, looked_up}
use Rattle.check_scope.specs.Scopes.{open_field as opened_field}
use Rattle.check_scope.specs.Elaborated.{Gathers}
use Rattle.check_stmt_parts.specs.Simple.{into_record}
use Rattle.def_typing.specs.Shapes.{IsMade}
use Rattle.law_typing.proofs.Inside.{last_opened}
use Rattle.law_typing.proofs.Naming.{index, place_found, place_none, stands_at}
use Rattle.law_typing.proofs.Shaping.{fields_of, fields_is}
use Rattle.def_typed.specs.Named.{named, named_by, Senses}
use Rattle.def_typed.specs.Statements.{field_meaning, field_or, with_fields}
use Rattle.law_typed.specs.Typed.{Grasps}

module _ (g : Gathers) (senses : Senses) (s : Scope g.Reported) (t : TypeNo) (fields : List (List ℕ × TypeNo))
    (made : IsMade s.types t (shape.Record fields)) (grasps : Grasps g senses s) (withs : ℕ)
    (counted : withs ≡ length s.withs) where
  abbrev r : OpenedRecord
  r = record { number = length s.withs; of = t }

  abbrev rest : Ident → Result Meaning (Meaningless g.Reported)
  rest name = means_as g name.pos (sight_of name.name s)

  abbrev seen : Ident → Option OpenedField → Result Meaning (Meaningless g.Reported)
  seen name o = means_or (or_outside o (opened_field s.types name.name s.withs)) (rest name)

  -- what is looked up at this place among the fields
  abbrev Meant : Ident → Meaning → Option ℕ → Type 0
  Meant name m p = seen name (field_numbered r fields p) ≡ Ok m
      → named s.level (field_or withs t fields p (senses.of_names name)) ≡ named_by s.level m

  abbrev numbered : ℕ → ℕ → List ℕ × TypeNo → Meaning
  numbered k i e = meaning.Field (record { with = k; whole = t; number = i; of = e.1 })

  one_meaning : (a b : Meaning) → ◌≡◌ {A = Result Meaning (Meaningless g.Reported)} (Ok a) (Ok b) → a ≡ b
  one_meaning a b e = cc e

  at_field : (name : Ident) (m : Meaning) (i : ℕ) (x : Option (List ℕ × TypeNo)) (u : List ℕ × TypeNo) → x ≡ Some u
      → seen name (option_map (λ (e : List ℕ × TypeNo). let f : OpenedField =
      record { with = r.number; whole = r.of; number = i; of = e.1 } in f) x) ≡ Ok m
      → named s.level (field_meaning withs t i x) ≡ named_by s.level m
  at_field name m i None u q h = absurd cc
  at_field name m i (Some e) u q h = ap (λ (k : ℕ). named_by s.level (numbered k i e)) counted
      ∙ ap (named_by s.level) (one_meaning (numbered (length s.withs) i e) m h)

  at_name : (name : Ident) (m : Meaning) (o : Option TypeNo) → find_name name.name fields ≡ o
      → Meant name m (place_of name.name fields)
  at_name name m None e = subst (Meant name m) (sym (place_none name.name fields e)) (λ h. grasps.of_names name m h)
  at_name name m (Some u) e = subst (Meant name m) (sym (place_found name.name fields u e))
      (λ h. let q = stands_at name.name fields u e in
      at_field name m (index name.name fields) (slice_get fields (index name.name fields)) (q.0, u) q.1 h)

  fields_there : fields_at s.types t ≡ Some fields
  fields_there = fields_is s.types t ∙ ap fields_of made

  names_inside : (name : Ident) (m : Meaning) → looked_up g (into_record s t) name ≡ Ok m
      → named s.level ((with_fields withs t fields senses).of_names name) ≡ named_by s.level m
  names_inside name m h = at_name name m (find_name name.name fields) refl
      (subst (λ (fs : Option (List (List ℕ × TypeNo))). seen name (field_among r name.name fs) ≡ Ok m) fields_there
      (subst (λ (o : Option OpenedField). means_or o (rest name) ≡ Ok m) (last_opened s.types name.name s.withs r) h))

  pub grasps_inside : Grasps g (with_fields withs t fields senses) (into_record s t)
  grasps_inside = record { of_level = grasps.of_level; of_names = names_inside; of_exports = grasps.of_exports }
