-- What is known inside a WITH.
use Rattle.std.proofs.Common.{◌≡◌, ℕ, Bool, List, [], ◌∷◌, ◌++◌, length, Option, Some, None, Result, Ok, Err, refl, sym, ap, subst, ◌∙◌}
use Rattle.std.specs.Option.{option_map}
use Rattle.m2_rule.specs.declared.breach.Breach.{Breach}
use Rattle.m2_tree.specs.declared.name.Ident.{Ident}
use Rattle.typed_tree.specs.declared.types.TypeNo.{TypeNo}
use Rattle.typed_tree.specs.declared.meaning.Meaning.{Meaning}
use Rattle.typed_tree.specs.declared.meaning.Meaning.TheVariants as meaning
use Rattle.typed_tree.specs.declared.meaning.OpenedField.{OpenedField}
use Rattle.typed_tree.specs.declared.shape.Shape.TheVariants as shape
use Rattle.typed_tree.specs.declared.known_types.Types.{Types}
use Rattle.typed_tree.specs.Names.{find_name, place_of}
use Rattle.check_scope.specs.declared.meaningless.Meaningless.{Meaningless}
use Rattle.check_scope.specs.declared.meaningless.Meaningless.TheVariants as meaningless
use Rattle.check_scope.specs.declared.scope.OpenedRecord.{OpenedRecord}
use Rattle.check_scope.specs.declared.scope.Scope.{Scope}
use Rattle.check_scope.specs.Scopes.{or_outside, fields_at, field_numbered, field_in, field_among, means_as, means_or, sight_of, looked_up}
use Rattle.check_scope.specs.Scopes.{open_field as opened_field}
use Rattle.check_scope.specs.Elaborated.{Gathers}
use Rattle.check_stmt_parts.specs.declared.around.Around.{Around}
use Rattle.check_stmt_parts.specs.Simple.{into_record}
use Rattle.def_typing.specs.Shapes.{IsMade}
use Rattle.def_typing.specs.Things.{AVariable, Headless, Standing, Known, Unknown}
use Rattle.def_typing.specs.Fields.{field_or, own_or}
use Rattle.def_typing.specs.Statements.{Spot, inside_with}
use Rattle.law_typing.specs.Judging.{Judges}
use Rattle.law_typing.specs.Exact.{Sees, sees, Knows, Repeats, of_heading, of_declaration, is_own_variable, KnowsOwn, KnowsSpot}
use Rattle.law_typing.proofs.Naming.{index, place_found, place_none, stands_at}
use Rattle.law_typing.proofs.Shaping.{fields_of, fields_is}
use Rattle.law_typing.proofs.Knowing.{own_by}

-- ---- records in a row

or_none : {A : Type 0} (o : Option A) → or_outside o None ≡ o
or_none None = refl
or_none (Some a) = refl

or_three : {A : Type 0} (o p q : Option A) → or_outside (or_outside o p) q ≡ or_outside o (or_outside p q)
or_three None p q = refl
or_three (Some a) p q = refl

pub last_opened : (types : Types) (name : List ℕ) (xs : List OpenedRecord) (r : OpenedRecord)
    → opened_field types name (xs ++ r ∷ []) ≡ or_outside (field_in types name r) (opened_field types name xs)
last_opened types name [] r = sym (or_none (field_in types name r))
last_opened types name (x ∷ xs) r = ap (λ (o : Option OpenedField). or_outside o (field_in types name x))
    (last_opened types name xs r) ∙ or_three (field_in types name r) (opened_field types name xs)
    (field_in types name x)

-- ---- a field of the last record

data FieldThere (u : TypeNo) : Option OpenedField → Type 0 where
  field_there : (f : OpenedField) → f.of ≡ u → FieldThere u (Some f)

there_by : (r : OpenedRecord) (name : List ℕ) (fields : List (List ℕ × TypeNo)) (u : TypeNo)
    → find_name name fields ≡ Some u → FieldThere u (field_numbered r fields (place_of name fields))
there_by r name fields u e = let q = stands_at name fields u e in
    subst (λ (p : Option ℕ). FieldThere u (field_numbered r fields p)) (sym (place_found name fields u e))
    (subst (λ (x : Option (List ℕ × TypeNo)). FieldThere u
    (option_map (λ (e : List ℕ × TypeNo). let f : OpenedField =
    record { with = r.number; whole = r.of; number = index name fields; of = e.1 } in f) x)) (sym q.1)
    (field_there _ refl))

module _ (g : Gathers) (j : Judges g) (s : Scope g.Reported) (t : TypeNo) (fields : List (List ℕ × TypeNo))
    (made : IsMade s.types t (shape.Record fields)) where
  abbrev r : OpenedRecord
  r = record { number = length s.withs; of = t }

  fields_there : fields_at s.types t ≡ Some fields
  fields_there = fields_is s.types t ∙ ap fields_of made

  abbrev rest : Ident → Result Meaning (Meaningless g.Reported)
  rest name = means_as g name.pos (sight_of name.name s)

  data InsideIs (name : Ident) : Option TypeNo → Result Meaning (Meaningless g.Reported) → Type 0 where
    is_field : {u : TypeNo} (f : OpenedField) → f.of ≡ u → InsideIs name (Some u) (Ok (meaning.Field f))
    is_other : InsideIs name None (looked_up g s name)

  there_means : (name : Ident) (u : TypeNo) (o w : Option OpenedField) → FieldThere u o
      → InsideIs name (Some u) (means_or (or_outside o w) (rest name))
  there_means name u _ w (field_there f e) = is_field f e

  inside_by : (name : Ident) (o : Option TypeNo) → find_name name.name fields ≡ o
      → InsideIs name o (means_or (or_outside (field_among r name.name (Some fields))
      (opened_field s.types name.name s.withs)) (rest name))
  inside_by name None e = subst (λ (p : Option ℕ). InsideIs name None
      (means_or (or_outside (field_numbered r fields p) (opened_field s.types name.name s.withs)) (rest name)))
      (sym (place_none name.name fields e)) is_other
  inside_by name (Some u) e = there_means name u _ (opened_field s.types name.name s.withs)
      (there_by r name.name fields u e)

  inside_is : (name : Ident) → InsideIs name (find_name name.name fields) (looked_up g (into_record s t) name)
  inside_is name = subst (λ (o : Option OpenedField). InsideIs name (find_name name.name fields)
      (means_or o (rest name))) (sym (last_opened s.types name.name s.withs r))
      (subst (λ (fs : Option (List (List ℕ × TypeNo))). InsideIs name (find_name name.name fields)
      (means_or (or_outside (field_among r name.name fs) (opened_field s.types name.name s.withs)) (rest name)))
      (sym fields_there) (inside_by name (find_name name.name fields) refl))

  -- ---- what is known

  module _ (names : Ident → Standing) (exports : ℕ → Ident → Standing) (own : Ident → Bool) where
    sees_inside : Knows g j names exports s
        → (name : Ident) (o : Option TypeNo) (q : Result Meaning (Meaningless g.Reported)) → InsideIs name o q
        → Sees g j name.pos (field_or o (names name)) q
    sees_inside k name _ _ (is_field f e) =
        subst (λ (u : TypeNo). Sees g j name.pos (Known (AVariable u)) (Ok (meaning.Field f))) e
        (sees (meaning.Field f))
    sees_inside k name _ _ is_other = k.of_names name

    same_own : (m : Meaning) → is_own_variable s m ≡ is_own_variable (into_record s t) m
    same_own (meaning.Constant v) = refl
    same_own (meaning.Type t n) = refl
    same_own (meaning.Variable v) = refl
    same_own (meaning.Local v) = refl
    same_own (meaning.Field f) = refl
    same_own (meaning.Procedure p) = refl
    same_own (meaning.LocalProcedure p) = refl
    same_own meaning.Ahead = refl
    same_own (meaning.Standard f) = refl
    same_own (meaning.Module k) = refl

    own_inside : KnowsOwn g j own s → (name : Ident) (o : Option TypeNo) (q : Result Meaning (Meaningless g.Reported))
        → InsideIs name o q → (m : Meaning) → q ≡ Ok m → own_or o (own name) ≡ is_own_variable (into_record s t) m
    own_inside k name _ _ (is_field f e) m h = ap (own_by (into_record s t)) h
    own_inside k name _ _ is_other m h = k name m h ∙ same_own m

    heading_inside : {f : Breach} {b : Bool} {q : g.Reported} (name : Ident) (o : Option TypeNo)
        (p : Result Meaning (Meaningless g.Reported)) → InsideIs name o p → field_or o (names name) ≡ Known (Headless b)
        → p ≡ Err (meaningless.Headless b q) → j.Among q f → Repeats g j names s f
    heading_inside name _ _ (is_field f e) h z m = absurd cc
    heading_inside name _ _ is_other h z m = of_heading h z m

    declaration_inside : {f : Breach} {q : g.Reported} (name : Ident) (o : Option TypeNo)
        (p : Result Meaning (Meaningless g.Reported)) → InsideIs name o p → field_or o (names name) ≡ Unknown
        → p ≡ Err (meaningless.Broken q) → j.Among q f → Repeats g j names s f
    declaration_inside name _ _ (is_field f e) h z m = absurd cc
    declaration_inside name _ _ is_other h z m = of_declaration h z m

    pub repeats_inside : (f : Breach) → Repeats g j (λ name. field_or (find_name name.name fields) (names name))
        (into_record s t) f → Repeats g j names s f
    repeats_inside f (of_heading {name = name} h z m) = heading_inside name _ _ (inside_is name) h z m
    repeats_inside f (of_declaration {name = name} h z m) = declaration_inside name _ _ (inside_is name) h z m

  pub spot_inside : {exports : ℕ → Ident → Standing} {w : Spot} {a : Around g.Reported} → KnowsSpot g j exports w s a
      → KnowsSpot g j exports (inside_with fields w) (into_record s t) a
  spot_inside {exports = exports} {w = w} k = record {
    of_names = record {
      of_names = λ name. sees_inside w.names exports w.own k.of_names name _ _ (inside_is name);
      of_modules = k.of_names.of_modules;
    };
    of_own = λ name m e. own_inside w.names exports w.own k.of_own name _ _ (inside_is name) m e;
    of_result = k.of_result;
    of_loop = k.of_loop;
  }
