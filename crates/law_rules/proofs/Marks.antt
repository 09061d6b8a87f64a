-- The names that a definition declares are marked in the order of the text.
use Rattle.std.proofs.Common.{◌≡◌, ℕ, true, List, [], ◌∷◌, ◌++◌, Option, Some, None, ◌⊎◌, inl, inr, refl, sym, ap, subst, ◌∙◌}
use Rattle.std.specs.Prelude.{map}
use Rattle.std.specs.List.{fold}
use Rattle.std.specs.Option.{is_some}
use Rattle.m2_rule.specs.declared.rule.Rule.TheVariants as rule
use Rattle.m2_tree.specs.declared.name.Ident.{Ident}
use Rattle.m2_tree.specs.declared.decl.TypeDecl.{TypeDecl}
use Rattle.m2_tree.specs.declared.decl.Variables.{Variables}
use Rattle.m2_tree.specs.declared.decl.Def.{Def}
use Rattle.m2_tree.specs.declared.decl.Def.TheVariants as def
use Rattle.m2_tree.specs.declared.decl.Simple.{Simple}
use Rattle.m2_tree.specs.declared.decl.Simple.TheVariants as simple
use Rattle.m2_tree.specs.declared.decl.TypeExpr.{TypeExpr, TypeExpr-F, roll-TypeExpr, out-roll-TypeExpr, map-TypeExpr}
use Rattle.m2_tree.specs.declared.decl.TypeExpr.TheOpen as layer
use Rattle.m2_tree.specs.declared.decl.Field.{Field, Field-F, out-Field, roll-Field, out-roll-Field, map-Field, fold_out-Field}
use Rattle.typed_tree.specs.Names.{find_name}
use Rattle.check_scope.specs.declared.known.Known.{Known}
use Rattle.check_scope.specs.declared.known.Known.TheVariants.{Later, Ahead}
use Rattle.check_scope.specs.declared.scope.Scope.{Scope}
use Rattle.check_scope.specs.Scopes.{unless_marked, mark_name}
use Rattle.check_definition.specs.Marking as marking
use Rattle.check_definition.specs.Marking.{Marks, marked_later, marked_simple, then_marks, marked_in, marked_field, marked_constant, marked_type, marked_variables, marked_def}
use Rattle.def_typing.specs.Operators.{◌!◌}
use Rattle.def_typing.specs.TypeExprs.{constants_listed, all_listed, constants_layer, constants_of_field, constants_in, constants_in_field}
use Rattle.def_typing.specs.Declarations.{Declaration, OfConstant, OfType, OfVariables}
use Rattle.law_folds.proofs.TypeFolds.{Typed, Fielded, bare, bare_field, all_trees, marks_opened, marks_opened_field, marks_at, marks_at_field}
use Rattle.law_typing.proofs.Heading.{nil_right, append_assoc}
use Rattle.law_typing.proofs.Entering.{entered_all}
use Rattle.law_typing.proofs.TypeReading.{constants_at}
use Rattle.law_typing.proofs.Beginning.{Adding}
use Rattle.law_typing.proofs.Recording.{NoTwice}
use Rattle.law_rules.specs.Defining.{declared_in, all_declared}
use Rattle.law_rules.proofs.Formals.{twice_join}
use Rattle.law_rules.proofs.Keys.{keys, last_key}
use Rattle.law_rules.proofs.Listing.{names_all, names_both}

fold_both : {A X : Type 0} (f : A → X → A) (a : A) (xs ys : List X) → fold f (fold f a xs) ys ≡ fold f a (xs ++ ys)
fold_both f a [] ys = refl
fold_both f a (x ∷ xs) ys = fold_both f (f a x) xs ys

-- ---- types mark their constants, in their order

module _ (T : Type 0) where
  abbrev pub marked : Scope T → List Ident → Scope T
  marked s xs = fold marked_later s xs

  abbrev PT : TypeExpr → Marks T → Type 0
  PT t f = (s : Scope T) → f s ≡ marked s (constants_in t)

  abbrev PF : Field → Marks T → Type 0
  PF d f = (s : Scope T) → f s ≡ marked s (constants_in_field d)

  abbrev ST : Type 0
  ST = Typed (marked_in {T = T}) (marked_field {T = T}) PT PF

  abbrev SF : Type 0
  SF = Fielded (marked_in {T = T}) (marked_field {T = T}) PT PF

  abbrev shut : TypeExpr-F ST SF → TypeExpr-F TypeExpr Field
  shut y = bare (marked_in {T = T}) (marked_field {T = T}) PT PF y

  abbrev shut_field : Field-F ST SF → Field-F TypeExpr Field
  shut_field y = bare_field (marked_in {T = T}) (marked_field {T = T}) PT PF y

  abbrev listed_field : Field-F TypeExpr Field → Field-F (List Ident) (List Ident)
  listed_field x = map-Field TypeExpr Field (List Ident) (List Ident) constants_in constants_in_field x

  field_at : (f : Field) (x : Field-F TypeExpr Field) → out-Field f ≡ x
      → constants_in_field f ≡ constants_of_field (listed_field x)
  unfolding constants_in constants_in_field
  field_at f x h = fold_out-Field (List Ident) (List Ident) constants_layer constants_of_field f
      ∙ ap (λ (y : Field-F TypeExpr Field). constants_of_field (listed_field y)) h

  simple_marks : (x : Simple) (s : Scope T) → marked_simple x s ≡ marked s (constants_listed x)
  simple_marks (simple.Named q) s = refl
  simple_marks (simple.Enumeration at names) s = refl
  simple_marks (simple.Subrange of at low high) s = refl

  fields_mark : (fs : List SF) (s : Scope T)
      → fold then_marks s (map (marked_field {T = T}) (map (λ (f : SF). f.0) fs)) ≡ marked s
      (all_listed (map constants_in_field (map (λ (f : SF). f.0) fs)))
  fields_mark [] s = refl
  fields_mark (f ∷ fs) s =
      ap (λ (t : Scope T). fold then_marks t (map (marked_field {T = T}) (map (λ (f : SF). f.0) fs))) (f.1 s)
      ∙ fields_mark fs (marked s (constants_in_field f.0)) ∙ fold_both marked_later s (constants_in_field f.0)
      (all_listed (map constants_in_field (map (λ (f : SF). f.0) fs)))

  abbrev listed : TypeExpr-F TypeExpr Field → List Ident
  listed x = constants_layer (map-TypeExpr TypeExpr Field (List Ident) (List Ident) constants_in constants_in_field x)

  layer_marks : (y : TypeExpr-F ST SF) (s : Scope T)
      → marking.type_layer (marks_opened (shut y)) s ≡ marked s (listed (shut y))
  layer_marks (layer.Simple x) s = simple_marks x s
  layer_marks (layer.Array at index t) s = t.1 (marked_simple index s)
      ∙ ap (λ (u : Scope T). marked u (constants_in t.0)) (simple_marks index s)
      ∙ fold_both marked_later s (constants_listed index) (constants_in t.0)
  layer_marks (layer.Record at fields) s = fields_mark fields s
  layer_marks (layer.Procedure at formals t) s = refl

  type_step : (y : TypeExpr-F ST SF) → PT (roll-TypeExpr (shut y)) (marking.type_layer (marks_opened (shut y)))
  type_step y s =
      let x : TypeExpr-F TypeExpr Field = shut y in
      layer_marks y s ∙ sym (ap (λ (xs : List Ident). marked s xs)
      (constants_at (roll-TypeExpr x) x (out-roll-TypeExpr x)))

  field_step : (y : Field-F ST SF)
      → PF (roll-Field (shut_field y)) (marking.field_layer (marks_opened_field (shut_field y)))
  field_step y s =
      let x : Field-F TypeExpr Field = shut_field y in
      y.of.1 s ∙ sym (ap (λ (xs : List Ident). marked s xs) (field_at (roll-Field x) x (out-roll-Field x)))

  pub type_marked : (t : TypeExpr) (s : Scope T) → marked_in t s ≡ marked s (constants_in t)
  type_marked =
      all_trees marked_in marked_field PT PF marking.type_layer marking.field_layer marks_at
      marks_at_field type_step field_step

  -- ---- keys

  abbrev pub names : List Ident → List (List ℕ)
  names xs = map (λ (x : Ident). x.name) xs

  names_append : (xs ys : List Ident) → names (xs ++ ys) ≡ names xs ++ names ys
  names_append [] ys = refl
  names_append (x ∷ xs) ys = ap (λ (ks : List (List ℕ)). x.name ∷ ks) (names_append xs ys)

  abbrev pub Covers : (List ℕ → Type 0) → Scope T → Type 0
  Covers There s = (n : List ℕ) → is_some (find_name n s.own) ≡ true → There n

  -- these names are new, and come last
  pub record Marked (There : List ℕ → Type 0) (xs : List Ident) (s t : Scope T) : Type 0 where
    pub last : keys t.own ≡ keys s.own ++ names xs
    pub covers : Covers (Adding xs There) t

  abbrev Marking : List Ident → Scope T → Scope T → Type 1
  Marking xs s t = (There : List ℕ → Type 0) → Covers There s → NoTwice There xs → Marked There xs s t

  mark_by : (x : Ident) (k : Known T) (s : Scope T) (o : Option (Known T)) → find_name x.name s.own ≡ o
      → Marking (x ∷ []) s (unless_marked x.name k s o)
  mark_by x k s (Some e) q There c n = absurd
      (n (x.pos ! rule.DeclaredTwice) (inl (c x.name (ap (λ (o : Option (Known T)). is_some o) q), refl)))
  mark_by x k s None q There c n = record {
    last = last_key x.name k s.own q;
    covers = entered_all (λ n o. is_some o ≡ true → (x.name ≡ n) ⊎ There n) x.name k s.own (λ e. inl refl)
        (λ n d e. inr (c n e));
  }

  mark_one : (x : Ident) (k : Known T) (s : Scope T) → Marking (x ∷ []) s (mark_name x k s)
  mark_one x k s = mark_by x k s (find_name x.name s.own) refl

  adding_both : (xs ys : List Ident) (There : List ℕ → Type 0) (n : List ℕ) → Adding ys (Adding xs There) n
      → Adding (xs ++ ys) There n
  adding_both [] ys There n h = h
  adding_both (x ∷ xs) ys There n h = adding_both xs ys (λ m. (x.name ≡ m) ⊎ There m) n h

  then_marked : (xs ys : List Ident) {s t u : Scope T} → Marking xs s t → Marking ys t u → Marking (xs ++ ys) s u
  then_marked xs ys {s = s} a b There c n =
      let p = a There c (λ f h. n f (twice_join There xs ys f (inl h))) in
      let q = b (Adding xs There) p.covers (λ f h. n f (twice_join There xs ys f (inr h))) in record {
        last = q.last ∙ ap (λ (ks : List (List ℕ)). ks ++ names ys) p.last
            ∙ append_assoc (keys s.own) (names xs) (names ys)
            ∙ ap (λ (ks : List (List ℕ)). keys s.own ++ ks) (sym (names_append xs ys));
        covers = λ n e. adding_both xs ys There n (q.covers n e);
      }

  nothing_marked : (s : Scope T) → Marking [] s s
  nothing_marked s There c n = record { last = sym (nil_right (keys s.own)); covers = c }

  list_marked : (xs : List Ident) (s : Scope T) → Marking xs s (marked s xs)
  list_marked [] s = nothing_marked s
  list_marked (x ∷ xs) s = then_marked (x ∷ []) xs (mark_one x Later s) (list_marked xs (marked_later s x))

  -- ---- declarations

  as_names : {xs ys : List Ident} {s t : Scope T} → xs ≡ ys → Marking xs s t → Marking ys s t
  as_names {s = s} {t = t} e m There c n = let p =
      m There c (subst (λ (zs : List Ident). NoTwice There zs) (sym e) n) in
      subst (λ (zs : List Ident). Marked There zs s t) e p

  type_declares : (d : TypeDecl) (s : Scope T) → Marking (d.name ∷ constants_in d.of) s (marked_type s d)
  type_declares d s = let e = type_marked d.of (mark_name d.name Later s) in
      λ There c n. subst (λ (t : Scope T). Marked There (d.name ∷ constants_in d.of) s t) (sym e)
      (then_marked (d.name ∷ []) (constants_in d.of) (mark_one d.name Later s)
      (list_marked (constants_in d.of) (mark_name d.name Later s)) There c n)

  variables_declare : (v : Variables) (s : Scope T) → Marking (v.names ++ constants_in v.of) s (marked_variables s v)
  variables_declare v s = let e = type_marked v.of (fold marked_later s v.names) in
      λ There c n. subst (λ (t : Scope T). Marked There (v.names ++ constants_in v.of) s t) (sym e)
      (then_marked v.names (constants_in v.of) (list_marked v.names s)
      (list_marked (constants_in v.of) (fold marked_later s v.names)) There c n)

  section_declares : {X : Type 0} (f : Scope T → X → Scope T) (of : X → Declaration) (ns : X → List Ident)
      → ((x : X) (s : Scope T) → Marking (ns x) s (f s x))
      → ((x : X) (rest : List Declaration) → names_all (of x ∷ rest) ≡ ns x ++ names_all rest)
      → (xs : List X) (s : Scope T) → Marking (names_all (map of xs)) s (fold f s xs)
  section_declares f of ns h e [] s There c n = nothing_marked s There c n
  section_declares f of ns h e (x ∷ xs) s There c n =
      as_names (sym (e x (map of xs))) (then_marked (ns x) (names_all (map of xs)) (h x s)
      (section_declares f of ns h e xs (f s x))) There c n

  def_declares : (d : Def) (s : Scope T) → Marking (names_all (declared_in d)) s (marked_def s d)
  def_declares (def.Constants cs) s = section_declares marked_constant OfConstant (λ c. c.name ∷ [])
      (λ c s. mark_one c.name Later s) (λ c rest. refl) cs s
  def_declares (def.Types ts) s = section_declares marked_type OfType (λ d. d.name ∷ constants_in d.of) type_declares
      (λ d rest. refl) ts s
  def_declares (def.Variables vs) s = section_declares marked_variables OfVariables (λ v. v.names ++ constants_in v.of)
      variables_declare (λ v rest. refl) vs s
  def_declares (def.Procedure h) s = mark_one h.name Ahead s

  pub defs_declare : (ds : List Def) (s : Scope T) → Marking (names_all (all_declared ds)) s (fold marked_def s ds)
  defs_declare [] s There c n = nothing_marked s There c n
  defs_declare (d ∷ ds) s There c n = as_names (sym (names_both (declared_in d) (all_declared ds)))
      (then_marked (names_all (declared_in d)) (names_all (all_declared ds)) (def_declares d s)
      (defs_declare ds (marked_def s d))) There c n
