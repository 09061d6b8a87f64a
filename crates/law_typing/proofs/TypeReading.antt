-- Types as they are written are answered exactly.
use Rattle.std.proofs.Common.{◌≡◌, ℕ, List, [], ◌∷◌, Option, Result, Ok, Err, inl, inr, refl, sym, ap, subst, ◌∙◌, arith, zero, suc, Bool, true, false, cond, Some, None, ◌++◌, ◌⊎◌}
use Rattle.std.specs.Prelude.{nat_lt, int_lt, not, unsigned_abs, ◌-ℤ◌, ◌+◌, ◌*◌}
use Rattle.std.proofs.lemmas.Bool.Decides.{nat_tests}
use Rattle.check_type_expr.specs.Cells.{count_up, count_of, count_at, is_index_scalar, is_index as is_index_of}
use Rattle.m2_rule.specs.declared.rule.Rule.TheVariants as rule
use Rattle.check_scope.specs.Elaborated.{report, reported_where, ◌▷◌}
use Rattle.def_typing.specs.Amounts.{IsWhole}
use Rattle.def_typing.specs.Operators.{◌!◌}
use Rattle.def_typing.specs.Shapes.{shape_at, IsMade}
use Rattle.typed_tree.specs.declared.shape.Shape.{Shape}
use Rattle.typed_tree.specs.declared.shape.Shape.TheVariants as shape
use Rattle.typed_tree.specs.Known.{scalar_at, cells_at}
use Rattle.m2_rule.specs.declared.breach.Breach.{Breach}
use Rattle.m2_tree.specs.declared.pos.Pos.{Pos}
use Rattle.m2_tree.specs.declared.name.Ident.{Ident}
use Rattle.m2_tree.specs.declared.expr.Expr.{Expr}
use Rattle.m2_tree.specs.declared.expr.Qualified.{Qualified}
use Rattle.m2_tree.specs.declared.decl.Field.{Field}
use Rattle.m2_tree.specs.declared.decl.Simple.{Simple}
use Rattle.m2_tree.specs.declared.decl.Simple.TheVariants as simple
use Rattle.m2_tree.specs.declared.decl.TypeExpr.{TypeExpr, TypeExpr-F, out-TypeExpr, map-TypeExpr, fold_out-TypeExpr}
use Rattle.m2_tree.specs.declared.decl.TypeExpr.TheOpen as layer
use Rattle.typed_tree.specs.declared.types.TypeNo.{TypeNo}
use Rattle.typed_tree.specs.declared.shape.Scalar.{Scalar as Range}
use Rattle.typed_tree.specs.declared.shape.Made.{Made}
use Rattle.typed_tree.specs.declared.known_types.Types.{Types}
use Rattle.check_scope.specs.declared.scope.Scope.{Scope}
use Rattle.check_scope.specs.Elaborated.{Gathers}
use Rattle.check_scope.specs.declared.known.Known.{Known}
use Rattle.check_scope.specs.Scopes.{State}
use Rattle.check_expr.specs.Meanings.{part}
use Rattle.check_type_expr.specs.Made.{simple_place, index_in, array_in, array_of, array_made as array_state, Makes, MakesFields, type_layer, field_layer, type_of, field_list, with_made, scalar_made, subrange, simple_type}
use Rattle.def_typing.specs.Things.{Standing}
use Rattle.def_typing.specs.TypeNames.{NamesType, BrokenTypeName}
use Rattle.def_typing.specs.Subranges.{IsSubrange, BrokenSubrange}
use Rattle.def_typing.specs.TypeExprs as rules
use Rattle.def_typing.specs.TypeExprs.{constants_listed, constants_layer, constants_of_field, constants_in, constants_in_field, with_types, next_type, range_made, Added, nothing_added, type_added, both_added, array_added, Setting, behind, IsIndex, values_in, size_of, array_made, place_of, IsSimpleType, SimpleAdds, BrokenSimpleType, IsTypeOf, is_simple, Adds, BrokenType, in_simple}
use Rattle.law_typing.specs.Judging.{Judges, Answers, means, refuses}
use Rattle.law_typing.specs.Exact.{Knows, Repeats}
use Rattle.law_typing.proofs.Combining.{Lawful, Decided, holds, fails_it, decided_as, declined, exact, both_answer, then_answer, where_answers}
use Rattle.m2_tree.specs.declared.decl.Parameter.{Parameter}
use Rattle.typed_tree.specs.declared.shape.Signature.{Signature}
use Rattle.check_type_expr.specs.Headings.{procedure_type}
use Rattle.def_typing.specs.Parts.{Among, Named}
use Rattle.std.specs.Option.{is_some}
use Rattle.typed_tree.specs.Names.{find_name}
use Rattle.def_typing.specs.Headings.{procedure_made, AreParameters, GivesBack, BrokenResult}
use Rattle.law_typing.proofs.Heading.{procedure_type_answers, nil_right, append_assoc, place_same}
use Rattle.law_typing.proofs.Shaping.{scalar_of, scalar_is}
use Rattle.law_typing.proofs.Deciding.{whole_decided}
use Rattle.law_typing.proofs.TypeNaming.{type_name_answers}
use Rattle.law_typing.proofs.Subranges.{subrange_answers}
use Rattle.law_typing.proofs.Enumerating.{MadeType, scope_with, set_in, Enters, Frees, enters_nothing, enters_both, own_behind, scope_behind, enters_behind, members_decided, both_decided, enumeration_answers, frees_more, knows_more, repeats_more, adds as enumeration_adds}

pub no_types : (types : Types) → with_types types [] ≡ types
no_types types = ap (λ (own : List Made). let t : Types = record types { own = own } in t) (nil_right types.own)

abbrev pub with_made_types : {T : Type 0} → Scope T → List Made → Scope T
with_made_types s ms = record s { types = with_types s.types ms }

pub no_made : {T : Type 0} (s : Scope T) → s ≡ with_made_types s []
no_made {T = T} s = sym (ap (λ (t : Types). let u : Scope T = record s { types = t } in u) (no_types s.types))

abbrev pub Is : Added → TypeNo → MadeType → Type 0
Is a t k = k ≡ (a, t)

-- ---- the names of the constants

pub constants_at : (e : TypeExpr) (x : TypeExpr-F TypeExpr Field) → out-TypeExpr e ≡ x
    → constants_in e ≡ constants_layer (map-TypeExpr TypeExpr Field (List Ident) (List Ident) constants_in
    constants_in_field x)
unfolding constants_in constants_in_field
constants_at e x h = fold_out-TypeExpr (List Ident) (List Ident) constants_layer constants_of_field e
    ∙ ap (λ (y : TypeExpr-F TypeExpr Field). constants_layer
    (map-TypeExpr TypeExpr Field (List Ident) (List Ident) constants_in constants_in_field y)) h

pub constants_as : {xs ys : List Ident} (bs : List (List ℕ × rules.Member)) → xs ≡ ys
    → ((n : List ℕ) → Decided (Named ys n) (is_some (find_name n bs))) → (n : List ℕ)
    → Decided (Named xs n) (is_some (find_name n bs))
constants_as bs e h n = subst (λ (xs : List Ident). Decided (Named xs n) (is_some (find_name n bs))) (sym e) (h n)

module _ (g : Gathers) (j : Judges g) (lawful : Lawful g j) (exports : ℕ → Ident → Standing) (s : Scope g.Reported)
  where
    -- the scope behind a type, what it adds, and what it is
    pub record TypeRead (xs : List Ident) (M : Setting → MadeType → Type 0) (B : Setting → Breach → Type 0)
        (A : Setting → Added → Type 0) (q : State TypeNo g.Reported) : Type 0 where
      pub adds : Added
      pub own : List (List ℕ × Known g.Reported)
      pub is : q.0 ≡ scope_with s adds.makes own
      pub enters : Enters adds.brings s.own own
      pub constants : (n : List ℕ) → Decided (Named xs n) (is_some (find_name n adds.brings))
      pub exact : (names : Ident → Standing) (there : List ℕ → Bool) → Knows g j names exports s → Frees s there
          → Answers g j (Repeats g j names s) (Is adds) (M (set_in s names there)) (B (set_in s names there)) q.1
      pub added : (names : Ident → Standing) (there : List ℕ → Bool) → Knows g j names exports s → Frees s there
          → A (set_in s names there) adds
      pub only : (names : Ident → Standing) (there : List ℕ → Bool) → Knows g j names exports s → Frees s there
          → (a : Added) → A (set_in s names there) a → a ≡ adds

    abbrev pub SimpleRead : Simple → State TypeNo g.Reported → Type 0
    SimpleRead x q = TypeRead (constants_listed x) (λ w k. IsSimpleType exports w x k.0 k.1)
        (λ w. BrokenSimpleType exports w x) (λ w. SimpleAdds exports w x) q

    -- what it adds, if it is something
    pub one_added : {R : Breach → Type 0} {M : MadeType → Type 0} {B : Breach → Type 0} {a : Added}
        {r : Result TypeNo g.Reported} → Answers g j R (Is a) M B r → (k : MadeType) → M k → k.0 ≡ a
    one_added (means t l i m u n) k z = ap (λ (k : MadeType). k.0) (u k z ∙ i)
    one_added (refuses r c n) k z = absurd (n k z)

    -- ---- names

    name_parts : {w : Setting} {q : Qualified} {a : Added} {t : TypeNo} → IsSimpleType exports w (simple.Named q) a t
        → NamesType w.names exports q t × (a ≡ nothing_added)
    name_parts (rules.named m) = (m, refl)

    name_fails : {w : Setting} {q : Qualified} {f : Breach} → BrokenSimpleType exports w (simple.Named q) f
        → BrokenTypeName w.names exports q f
    name_fails (rules.in_name b) = b

    name_adds : {w : Setting} {q : Qualified} {a : Added} → SimpleAdds exports w (simple.Named q) a → a ≡ nothing_added
    name_adds rules.a_name = refl

    name_by : (w : Setting) (q : Qualified) {r : Result TypeNo g.Reported}
        → Answers g j (Repeats g j w.names s) (λ (t u : TypeNo). t ≡ u) (NamesType w.names exports q)
        (BrokenTypeName w.names exports q) r
        → Answers g j (Repeats g j w.names s) (Is nothing_added) (λ k. IsSimpleType exports w (simple.Named q) k.0 k.1)
        (BrokenSimpleType exports w (simple.Named q)) r
    name_by w q (means t u i m one n) = means t (nothing_added, t) refl
        (rules.named (subst (NamesType w.names exports q) (sym i) m)) (λ l z. same l z) (λ f b. n f (name_fails b))
      where
        same : (l : MadeType) → IsSimpleType exports w (simple.Named q) l.0 l.1 → l ≡ (nothing_added, t)
        same l z = let y = name_parts z in ap (λ (a : Added). let k : MadeType = (a, l.1) in k) y.1
            ∙ ap (λ (x : TypeNo). let k : MadeType = (nothing_added, x) in k) (one l.1 y.0 ∙ sym i)
    name_by w q (refuses r c n) = refuses r
        (record {
          only = λ f m. elim (c.only f m) [ inl b ↦ inl (rules.in_name b) | inr o ↦ inr o ];
          each =
              λ f b. c.each f (name_fails b);
        }) (λ l z. n l.1 (name_parts z).0)

    -- ---- subranges

    module _ (of : Option Qualified) (at : Pos) (low high : Expr) where
      abbrev Sub : Setting → Range → Type 0
      Sub w = IsSubrange w.types w.names exports low high of

      abbrev BrokenSub : Setting → Breach → Type 0
      BrokenSub w = BrokenSubrange w.types w.names exports low high of

      abbrev SubSo : Setting → Result Range g.Reported → Type 0
      SubSo w r = Answers g j (Repeats g j w.names s) (λ (a r : Range). a ≡ r) (Sub w) (BrokenSub w) r

      abbrev RangeSo : Setting → Added → Result TypeNo g.Reported → Type 0
      RangeSo w a r = Answers g j (Repeats g j w.names s) (Is a)
          (λ k. IsSimpleType exports w (simple.Subrange of at low high) k.0 k.1)
          (BrokenSimpleType exports w (simple.Subrange of at low high)) r

      range_parts : {w : Setting} {a : Added} {t : TypeNo} → IsSimpleType exports w (simple.Subrange of at low high) a t
          → (r : Range) × Sub w r × ((a ≡ type_added (range_made r)) × (t ≡ next_type w.types))
      range_parts (rules.subrange {r = r} m) = (r, m, (refl, refl))

      range_fails : {w : Setting} {f : Breach} → BrokenSimpleType exports w (simple.Subrange of at low high) f
          → BrokenSub w f
      range_fails (rules.in_subrange b) = b

      range_adds : {w : Setting} {a : Added} → SimpleAdds exports w (simple.Subrange of at low high) a
          → ((r : Range) × Sub w r × (a ≡ type_added (range_made r)))
          ⊎ (((r : Range) → Sub w r → ⊥) × (a ≡ nothing_added))
      range_adds (rules.a_subrange {r = r} m) = inl (r, m, refl)
      range_adds (rules.no_subrange n) = inr (n, refl)

      range_there : (w : Setting) {x : Range} → SubSo w (Ok x)
          → RangeSo w (type_added (range_made x)) (Ok (next_type w.types))
      range_there w {x = x} (means _ r i m one n) =
          means (next_type w.types) (type_added (range_made x), next_type w.types) refl
          (rules.subrange (subst (Sub w) (sym i) m)) (λ l z. same l z) (λ f b. n f (range_fails b))
        where
          same : (l : MadeType) → IsSimpleType exports w (simple.Subrange of at low high) l.0 l.1
              → l ≡ (type_added (range_made x), next_type w.types)
          same l z = let y = range_parts z in ap (λ (a : Added). let k : MadeType = (a, l.1) in k)
              (y.2.0 ∙ ap (λ (r : Range). type_added (range_made r)) (one y.0 y.1 ∙ sym i))
              ∙ ap (λ (t : TypeNo). let k : MadeType = (type_added (range_made x), t) in k) y.2.1

      range_nowhere : (w : Setting) {e : g.Reported} → SubSo w (Err e) → RangeSo w nothing_added (Err e)
      range_nowhere w (refuses r c n) = refuses r
          (record {
            only = λ f m. elim (c.only f m) [ inl b ↦ inl (rules.in_subrange b) | inr o ↦ inr o ];
            each =
                λ f b. c.each f (range_fails b);
          }) (λ l z. let y = range_parts z in n y.0 y.1)

      there_added : (w : Setting) {x : Range} → SubSo w (Ok x)
          → SimpleAdds exports w (simple.Subrange of at low high) (type_added (range_made x))
      there_added w (means _ r i m one n) = rules.a_subrange (subst (Sub w) (sym i) m)

      there_only : (w : Setting) {x : Range} → SubSo w (Ok x) → {a : Added}
          → SimpleAdds exports w (simple.Subrange of at low high) a → a ≡ type_added (range_made x)
      there_only w (means _ r i m one n) z =
          elim (range_adds z) [
            | inl y ↦ y.2 ∙ ap (λ (r : Range). type_added (range_made r)) (one y.0 y.1 ∙ sym i)
            | inr
                y ↦ absurd (y.0 r m)
          ]

      nowhere_added : (w : Setting) {e : g.Reported} → SubSo w (Err e)
          → SimpleAdds exports w (simple.Subrange of at low high) nothing_added
      nowhere_added w (refuses r c n) = rules.no_subrange n

      nowhere_only : (w : Setting) {e : g.Reported} → SubSo w (Err e) → {a : Added}
          → SimpleAdds exports w (simple.Subrange of at low high) a → a ≡ nothing_added
      nowhere_only w (refuses r c n) z = elim (range_adds z) [ inl y ↦ absurd (n y.0 y.1) | inr y ↦ y.1 ]

      range_read : (r : Result Range g.Reported)
          → ((names : Ident → Standing) (there : List ℕ → Bool) → Knows g j names exports s
          → SubSo (set_in s names there) r) → SimpleRead (simple.Subrange of at low high) (with_made s (scalar_made r))
      range_read (Ok x) h = record {
        adds = type_added (range_made x);
        own = s.own;
        is = refl;
        enters = enters_nothing s.own;
        constants = λ n. fails_it (λ z. elim z.1 [ ]);
        exact = λ names there k f. range_there (set_in s names there) (h names there k);
        added = λ names there k f. there_added (set_in s names there) (h names there k);
        only = λ names there k f a z. there_only (set_in s names there) (h names there k) z;
      }
      range_read (Err e) h = record {
        adds = nothing_added;
        own = s.own;
        is = no_made s;
        enters = enters_nothing s.own;
        constants = λ n. fails_it (λ z. elim z.1 [ ]);
        exact = λ names there k f. range_nowhere (set_in s names there) (h names there k);
        added = λ names there k f. nowhere_added (set_in s names there) (h names there k);
        only = λ names there k f a z. nowhere_only (set_in s names there) (h names there k) z;
      }

    -- ---- enumerations

    enumeration_only : {w : Setting} {at : Pos} {xs : List Ident} {a : Added}
        → SimpleAdds exports w (simple.Enumeration at xs) a → a ≡ rules.enumeration_added (next_type w.types) xs
    enumeration_only rules.an_enumeration = refl

    pub simple_read : (x : Simple) → SimpleRead x (simple_type g s x)
    simple_read (simple.Named q) = record {
      adds = nothing_added;
      own = s.own;
      is = no_made s;
      enters = enters_nothing s.own;
      constants = λ n. fails_it (λ z. elim z.1 [ ]);
      exact = λ names there k f. name_by (set_in s names there) q (type_name_answers g j lawful names exports s k q);
      added = λ names there k f. rules.a_name;
      only = λ names there k f a z. name_adds z;
    }
    simple_read (simple.Enumeration at xs) = record {
      adds = enumeration_adds g j lawful exports s at xs;
      own = own_behind g j lawful exports s at xs;
      is = scope_behind g j lawful exports s at xs;
      enters = enters_behind g j lawful exports s at xs;
      constants = members_decided (next_type s.types) 0 xs;
      exact = λ names there k f. enumeration_answers g j lawful exports s at xs names f;
      added = λ names there k f. rules.an_enumeration;
      only = λ names there k f a z. enumeration_only z;
    }
    simple_read (simple.Subrange of at low high) =
        range_read of at low high (subrange g s of (part g low) (part g high))
        (λ names there k. subrange_answers g j lawful names exports s k low high of)

    -- ---- all types

    abbrev opened : TypeExpr-F TypeExpr Field → TypeExpr-F (Makes g) (MakesFields g)
    opened x = map-TypeExpr TypeExpr Field (Makes g) (MakesFields g) (type_of g) (field_list g) x

    pub type_at : (e : TypeExpr) (x : TypeExpr-F TypeExpr Field) → out-TypeExpr e ≡ x
        → type_of g e ≡ type_layer g (opened x)
    unfolding type_of field_list
    type_at e x h = fold_out-TypeExpr (Makes g) (MakesFields g) (type_layer g) (field_layer g) e
        ∙ ap (λ (y : TypeExpr-F TypeExpr Field). type_layer g (opened y)) h

    abbrev pub Read : TypeExpr → State TypeNo g.Reported → Type 0
    Read e q = TypeRead (constants_in e) (λ w k. IsTypeOf exports w e k.0 k.1) (λ w. BrokenType exports w e)
        (λ w. Adds exports w e) q

    abbrev simple_in : Simple → TypeExpr-F TypeExpr Field → Simple
    simple_in x (layer.Simple y) = y
    simple_in x other = x

    same_simple : (e : TypeExpr) {x y : Simple} → out-TypeExpr e ≡ layer.Simple x → out-TypeExpr e ≡ layer.Simple y
        → y ≡ x
    same_simple e {x = x} h k = ap (simple_in x) (sym k ∙ h)

    module _ (w : Setting) {e : TypeExpr} {x : Simple} (h : out-TypeExpr e ≡ layer.Simple x) where
      simple_out : {a : Added} {t : TypeNo} → IsTypeOf exports w e a t → IsSimpleType exports w x a t
      simple_out {a = a} {t = t} (is_simple q m) =
          subst (λ (y : Simple). IsSimpleType exports w y a t) (same_simple e h q) m
      simple_out (rules.is_array q m i n l) = let z = sym h ∙ q in absurd cc
      simple_out (rules.is_procedure q m n) = let z = sym h ∙ q in absurd cc
      simple_out (rules.is_record q m d l) = let z = sym h ∙ q in absurd cc

      fails_out : (f : Breach) → BrokenType exports w e f → BrokenSimpleType exports w x f
      fails_out f (rules.in_parameter q m b) = let z = sym h ∙ q in absurd cc
      fails_out f (rules.at_result q b) = let z = sym h ∙ q in absurd cc
      fails_out f (rules.in_index q b) = let z = sym h ∙ q in absurd cc
      fails_out f (rules.no_index q m n) = let z = sym h ∙ q in absurd cc
      fails_out f (rules.in_elements q m b) = let z = sym h ∙ q in absurd cc
      fails_out f (rules.too_large q m i n l) = let z = sym h ∙ q in absurd cc
      fails_out f (rules.in_fields q m) = let z = sym h ∙ q in absurd cc
      fails_out f (rules.field_twice q d) = let z = sym h ∙ q in absurd cc
      fails_out f (rules.too_many_cells q m d l) = let z = sym h ∙ q in absurd cc
      fails_out f (in_simple q b) = subst (λ (y : Simple). BrokenSimpleType exports w y f) (same_simple e h q) b

      adds_out : {a : Added} → Adds exports w e a → SimpleAdds exports w x a
          ⊎ ((t : TypeNo) × IsSimpleType exports w x a t)
      adds_out {a = a} (rules.simple_adds q m) =
          inl (subst (λ (y : Simple). SimpleAdds exports w y a) (same_simple e h q) m)
      adds_out (rules.right_adds {t = t} m) = inr (t, simple_out m)
      adds_out (rules.parts_add q n m b) = let z = sym h ∙ q in absurd cc
      adds_out (rules.no_procedure q n) = let z = sym h ∙ q in absurd cc
      adds_out (rules.fields_add q n m) = let z = sym h ∙ q in absurd cc

    pub simple_type_read : (e : TypeExpr) (x : Simple) → out-TypeExpr e ≡ layer.Simple x → Read e (type_of g e s)
    simple_type_read e x h = let q = simple_read x in
        subst (λ (m : Makes g). Read e (m s)) (sym (type_at e (layer.Simple x) h))
        (record {
          adds = q.adds;
          own = q.own;
          is = q.is;
          enters = q.enters;
          constants = constants_as q.adds.brings (constants_at e (layer.Simple x) h) q.constants;
          exact = λ names there k f. exact g j lawful (Repeats g j names s) (λ l m. is_simple h m)
              (λ l m. simple_out (set_in s names there) h m) (λ f b. in_simple h b)
              (λ f b. fails_out (set_in s names there) h f b) (q.exact names there k f);
          added = λ names there k f. rules.simple_adds h (q.added names there k f);
          only = λ names there k f a z. elim (adds_out (set_in s names there) h z)
              [ inl m ↦ q.only names there k f a m | inr m ↦ one_added (q.exact names there k f) (a, m.0) m.1 ];
        })

-- ---- how large arrays are

-- a size as it is counted, and as it is
pub data SizeIs (n m : ℕ) : Type 0 where
  size_same : n ≡ m → SizeIs n m
  size_large : nat_lt 131072 n ≡ true → nat_lt 131072 m ≡ true → SizeIs n m

large_size : (d c : ℕ) → nat_lt 131072 d ≡ true → SizeIs (131073 * c) ((d + 1) * c)
large_size d zero h = let x : 131073 * 0 ≡ 0 = omega arith in let y : (d + 1) * 0 ≡ 0 = omega arith in
    size_same (x ∙ sym y)
large_size d (suc c) h = size_large (large_first c) (large_second d c h)
  where
    large_first : (c : ℕ) → nat_lt 131072 (131073 * suc c) ≡ true
    large_first c = grind (arith, nat_tests)

    large_second : (d c : ℕ) → nat_lt 131072 d ≡ true → nat_lt 131072 ((d + 1) * suc c) ≡ true
    large_second d c h = let e : (d + 1) * suc c ≡ (d + 1) + (d + 1) * c = omega arith in grind (arith, nat_tests, h, e)

counted_size : (b : Bool) (d c : ℕ) → nat_lt 131072 d ≡ b → SizeIs (cond b 131073 (d + 1) * c) ((d + 1) * c)
counted_size true d c h = large_size d c h
counted_size false d c h = size_same refl

range_size : (b : Bool) (d c : ℕ) → SizeIs (cond b 0 (count_up d) * c) (cond b 0 (d + 1) * c)
range_size true d c = size_same refl
range_size false d c = counted_size (nat_lt 131072 d) d c refl

size_is : (o : Option Range) (c : ℕ) → SizeIs (count_of o * c) (values_in o * c)
size_is None c = size_same refl
size_is (Some r) c = range_size (int_lt r.high r.low) (unsigned_abs (r.high -ℤ r.low)) c

-- ---- what may be an index

not_decided : {P : Type 0} {b : Bool} → Decided P b → Decided (P → ⊥) (not b)
not_decided (holds p) = fails_it (λ n. n p)
not_decided (fails_it n) = holds n

index_scalar : {types : Types} {t : TypeNo} → IsIndex types t → (r : Range) × IsMade types t (shape.Scalar r)
    × (IsWhole t → ⊥)
index_scalar (rules.is_index {r = r} m w) = (r, m, w)

module _ (types : Types) (t : TypeNo) where
  no_index_by : (o : Option Shape) → shape_at types t ≡ o → ((r : Range) → o ≡ Some (shape.Scalar r) → ⊥)
      → Decided (IsIndex types t) false
  no_index_by o e n = fails_it (λ i. let q = index_scalar i in n q.0 (sym e ∙ q.1))

  index_by : (o : Option Shape) → shape_at types t ≡ o → Decided (IsIndex types t) (is_index_scalar t (scalar_of o))
  index_by None e = no_index_by None e (λ r q. absurd cc)
  index_by (Some (shape.Scalar r)) e = decided_as (λ w. rules.is_index e w) (λ i. (index_scalar i).2)
      (not_decided (whole_decided t))
  index_by (Some shape.Set) e = no_index_by _ e (λ r q. absurd cc)
  index_by (Some (shape.Array i x)) e = no_index_by _ e (λ r q. absurd cc)
  index_by (Some (shape.Record fs)) e = no_index_by _ e (λ r q. absurd cc)
  index_by (Some (shape.Procedure h)) e = no_index_by _ e (λ r q. absurd cc)
  index_by (Some (shape.Open x)) e = no_index_by _ e (λ r q. absurd cc)

  index_decided : Decided (IsIndex types t) (is_index_of types t)
  index_decided = subst (λ (o : Option Range). Decided (IsIndex types t) (is_index_scalar t o))
      (sym (scalar_is types t)) (index_by (shape_at types t) refl)

index_place : (x : Simple) → simple_place x ≡ place_of x
index_place (simple.Named q) = place_same q.module q.name
index_place (simple.Enumeration at names) = refl
index_place (simple.Subrange None at low high) = refl
index_place (simple.Subrange (Some q) at low high) = place_same q.module q.name

assoc_made : (own ms ns rest : List Made) → ((own ++ ms) ++ ns) ++ rest ≡ own ++ (ms ++ (ns ++ rest))
assoc_made own ms ns rest = append_assoc (own ++ ms) ns rest ∙ append_assoc own ms (ns ++ rest)

pub more_repeated : {g : Gathers} {j : Judges g} {A K : Type 0} {Is : A → K → Type 0} {M : K → Type 0}
    {B Q U : Breach → Type 0} {r : Result A g.Reported} → ((f : Breach) → Q f → U f) → Answers g j Q Is M B r
    → Answers g j U Is M B r
more_repeated h (means a k i m u n) = means a k i m u n
more_repeated h (refuses r c n) = refuses r
    (record { only = λ f m. elim (c.only f m) [ inl b ↦ inl b | inr o ↦ inr (h f o) ]; each = c.each }) n

-- ---- arrays

module _ (g : Gathers) (j : Judges g) (lawful : Lawful g j) (exports : ℕ → Ident → Standing) (s : Scope g.Reported)
    (no_withs : s.withs ≡ []) (e : TypeExpr) (at : Pos) (x : Simple) (of : TypeExpr)
    (h : out-TypeExpr e ≡ layer.Array at x of) (index : SimpleRead g j lawful exports s x (simple_type g s x))
    (elements : Read g j lawful exports (scope_with s index.adds.makes index.own) of
    (type_of g of (scope_with s index.adds.makes index.own))) where
  abbrev a : Added
  a = index.adds

  abbrev b : Added
  b = elements.adds

  abbrev S1 : Scope g.Reported
  S1 = scope_with s a.makes index.own

  abbrev S2 : Scope g.Reported
  S2 = scope_with S1 b.makes elements.own

  abbrev Both : Type 0
  Both = MadeType × MadeType

  abbrev T : Both → Types
  T k = with_types (with_types s.types k.0.0.makes) k.1.0.makes

  abbrev Small : Both → Type 0
  Small k = nat_lt 131072 (size_of (T k) k.0.1 k.1.1) ≡ false

  abbrev Large : Both → Type 0
  Large k = nat_lt 131072 (size_of (T k) k.0.1 k.1.1) ≡ true

  abbrev ArrayIs : Both → Made → Type 0
  ArrayIs k m = Small k × (m ≡ array_made (T k) k.0.1 k.1.1)

  abbrev ArrayFails : Both → Breach → Type 0
  ArrayFails k f = Large k × (f ≡ at ! rule.LargeType)

  abbrev Equal : Made → Made → Type 0
  Equal a b = a ≡ b

  abbrev made_result : Result Made g.Reported
  made_result = array_of g S2.types at (index_in g S1.types (simple_place x) (simple_type g s x).1) (type_of g of S1).1

  module _ (names : Ident → Standing) (there : List ℕ → Bool) (knows : Knows g j names exports s)
      (frees : Frees s there) where
    abbrev R : Breach → Type 0
    R = Repeats g j names s

    abbrev w : Setting
    w = set_in s names there

    abbrev w1 : Setting
    w1 = behind w a

    frees1 : Frees S1 w1.there
    frees1 = frees_more g j exports s no_withs a index.own index.enters frees

    knows1 : Knows g j w1.names exports S1
    knows1 = knows_more g j exports s no_withs a index.own index.enters frees knows

    abbrev First : MadeType → Type 0
    First k = IsSimpleType exports w x k.0 k.1

    abbrev FirstFails : Breach → Type 0
    FirstFails = BrokenSimpleType exports w x

    abbrev Index : MadeType → Type 0
    Index k = First k × IsIndex (with_types s.types k.0.makes) k.1

    abbrev IndexFails : Breach → Type 0
    IndexFails f = FirstFails f ⊎ ((k : MadeType) × First k
        × ((IsIndex (with_types s.types k.0.makes) k.1 → ⊥) × (f ≡ place_of x ! rule.NoIndex)))

    abbrev Checks : MadeType → TypeNo → Type 0
    Checks k t = Answers g j R (Is a) (λ l. IsIndex (with_types s.types k.0.makes) k.1 × (l ≡ k))
        (λ f. ((IsIndex (with_types s.types k.0.makes) k.1 → ⊥) × (f ≡ place_of x ! rule.NoIndex))
        ⊎ (IsIndex (with_types s.types k.0.makes) k.1 × ⊥))
        (reported_where g (not (is_index_of (with_types s.types a.makes) t)) (place_of x) rule.NoIndex (Ok t))

    index_checked : (t : TypeNo) (k : MadeType) → Is a t k → Checks k t
    index_checked t k e = subst (λ (k : MadeType). Checks k t) (sym e)
        (where_answers g j lawful R {P = IsIndex (with_types s.types a.makes) t} {M = λ l. l ≡ (a, t)} {B = λ f. ⊥}
        (is_index_of (with_types s.types a.makes) t) (place_of x) rule.NoIndex
        (index_decided (with_types s.types a.makes) t) (λ i. means t (a, t) refl refl (λ l q. q) (λ f z. z)))

    index_answers : Answers g j R (Is a) Index IndexFails
        (index_in g (with_types s.types a.makes) (simple_place x) (simple_type g s x).1)
    index_answers = subst (λ (p : Pos). Answers g j R (Is a) Index IndexFails
        (index_in g (with_types s.types a.makes) p (simple_type g s x).1)) (sym (index_place x))
        (exact g j lawful R (λ l z. subst Index (sym z.2.1) (z.1, z.2.0)) (λ l z. (l, z.0, (z.1, refl)))
        (λ f z. elim z [ inl b ↦ inl b | inr q ↦ inr (q.0, q.1, elim q.2 [ inl w ↦ w | inr w ↦ absurd w.1 ]) ])
        (λ f z. elim z [ inl b ↦ inl b | inr q ↦ inr (q.0, q.1, inl q.2) ])
        (then_answer g j lawful R {N = λ k l. IsIndex (with_types s.types k.0.makes) k.1 × (l ≡ k)}
        {D = λ k f. ((IsIndex (with_types s.types k.0.makes) k.1 → ⊥) × (f ≡ place_of x ! rule.NoIndex))
        ⊎ (IsIndex (with_types s.types k.0.makes) k.1 × ⊥)} (index.exact names there knows frees)
        (λ t k i. index_checked t k i)))

    abbrev Elements : MadeType → Type 0
    Elements k = IsTypeOf exports w1 of k.0 k.1

    abbrev ElementsFail : Breach → Type 0
    ElementsFail = BrokenType exports w1 of

    elements_exact : Answers g j R (Is b) Elements ElementsFail (type_of g of S1).1
    elements_exact = more_repeated (repeats_more g j exports s no_withs a index.own index.enters frees names)
        (elements.exact w1.names w1.there knows1 frees1)

    -- ---- how large it is

    module _ (types : Types) (i c : TypeNo) where
      abbrev size : ℕ
      size = size_of types i c

      abbrev SizeSo : Result Made g.Reported → Type 0
      SizeSo r = Answers g j R Equal (λ m. (nat_lt 131072 size ≡ false) × (m ≡ array_made types i c))
          (λ f. (nat_lt 131072 size ≡ true) × (f ≡ at ! rule.LargeType)) r

      small_array : nat_lt 131072 size ≡ false → SizeSo (Ok (array_made types i c))
      small_array e = means (array_made types i c) (array_made types i c) refl (e, refl) (λ m z. z.1)
          (λ f z. let w : true ≡ false = sym z.0 ∙ e in absurd cc)

      large_array : nat_lt 131072 size ≡ true → SizeSo (report g at rule.LargeType)
      large_array e = declined g j lawful R at rule.LargeType (λ m z. let w : true ≡ false = sym e ∙ z.0 in absurd cc)
          (e, refl) (λ f z. z.1)

      sized_by : (n : ℕ) → SizeIs n size → (l : Bool) → nat_lt 131072 n ≡ l
          → SizeSo (reported_where g l at rule.LargeType (Ok n) ▷ λ n. Ok
          (record { shape = shape.Array i c; cells = n }))
      sized_by n (size_same q) true e = large_array (subst (λ (n : ℕ). nat_lt 131072 n ≡ true) q e)
      sized_by n (size_same q) false e = subst (λ (m : ℕ). SizeSo (Ok (record { shape = shape.Array i c; cells = m })))
          (sym q) (small_array (subst (λ (n : ℕ). nat_lt 131072 n ≡ false) q e))
      sized_by n (size_large h l) true e = large_array l
      sized_by n (size_large h l) false e = let w : true ≡ false = sym h ∙ e in absurd cc

      size_answers : SizeSo (array_in g types at i c)
      size_answers = sized_by (count_at types i * cells_at types c) (size_is (scalar_at types i) (cells_at types c))
          (nat_lt 131072 (count_at types i * cells_at types c)) refl

    array_checked : (y : TypeNo × TypeNo) (k : Both) → Is a y.0 k.0 × Is b y.1 k.1
        → Answers g j R Equal (ArrayIs k) (ArrayFails k) (array_in g S2.types at y.0 y.1)
    array_checked y k i = subst (λ (l : MadeType). Answers g j R Equal (ArrayIs (l, k.1)) (ArrayFails (l, k.1))
        (array_in g S2.types at y.0 y.1)) (sym i.0)
        (subst (λ (l : MadeType). Answers g j R Equal (ArrayIs ((a, y.0), l)) (ArrayFails ((a, y.0), l))
        (array_in g S2.types at y.0 y.1)) (sym i.1) (size_answers S2.types y.0 y.1))

    -- ---- all of it

    abbrev Whole : MadeType → Type 0
    Whole k = IsTypeOf exports w e k.0 k.1

    abbrev WholeFails : Breach → Type 0
    WholeFails = BrokenType exports w e

    abbrev Parts : Made → Type 0
    Parts m = (k : Both) × (Index k.0 × Elements k.1) × ArrayIs k m

    abbrev PartsFail : Breach → Type 0
    PartsFail f = (IndexFails f ⊎ ElementsFail f) ⊎ ((k : Both) × (Index k.0 × Elements k.1) × ArrayFails k f)

    parts_answer : Answers g j R Equal Parts PartsFail made_result
    parts_answer = then_answer g j lawful R {N = ArrayIs} {D = ArrayFails}
        (both_answer g j lawful R index_answers elements_exact) (λ y k i. array_checked y k i)

    abbrev result : Both → MadeType
    result k = (array_added w k.0.0 k.1.0 k.0.1 k.1.1, next_type (T k))

    one : (k : MadeType) → First k → k.0 ≡ a
    one k z = one_added g j lawful exports s (index.exact names there knows frees) k z

    alone : (k : MadeType) → Elements k → k.0 ≡ b
    alone k z = one_added g j lawful exports s elements_exact k z

    then_there : (k : MadeType) → First k → {l : MadeType} → Elements l → IsTypeOf exports (behind w k.0) of l.0 l.1
    then_there k z {l = l} m = subst (λ (a : Added). IsTypeOf exports (behind w a) of l.0 l.1) (sym (one k z)) m

    whole_in : (k : Both) → Index k.0 × Elements k.1 → Small k → Whole (result k)
    whole_in k i z = rules.is_array h i.0.0 i.0.1 (then_there k.0 i.0.0 i.1) z

    same_index : {p : Pos} {y : Simple} {u : TypeExpr} → out-TypeExpr e ≡ layer.Array p y u → y ≡ x
    same_index q = let z = sym q ∙ h in cc

    same_of : {p : Pos} {y : Simple} {u : TypeExpr} → out-TypeExpr e ≡ layer.Array p y u → u ≡ of
    same_of q = let z = sym q ∙ h in cc

    same_at : {p : Pos} {y : Simple} {u : TypeExpr} → out-TypeExpr e ≡ layer.Array p y u → p ≡ at
    same_at q = let z = sym q ∙ h in cc

    indexed : {p : Pos} {y : Simple} {u : TypeExpr} {c : Added} {i : TypeNo} → out-TypeExpr e ≡ layer.Array p y u
        → IsSimpleType exports w y c i → First (c, i)
    indexed {c = c} {i = i} q m = subst (λ (y : Simple). IsSimpleType exports w y c i) (same_index q) m

    elemented : {p : Pos} {y : Simple} {u : TypeExpr} {c d : Added} {i v : TypeNo} → out-TypeExpr e ≡ layer.Array p y u
        → First (c, i) → IsTypeOf exports (behind w c) u d v → Elements (d, v)
    elemented {c = c} {d = d} {i = i} {v = v} q m n =
        subst (λ (c : Added). IsTypeOf exports (behind w c) of d v) (one (c, i) m)
        (subst (λ (u : TypeExpr). IsTypeOf exports (behind w c) u d v) (same_of q) n)

    index_adds : {p : Pos} {y : Simple} {u : TypeExpr} {c : Added} → out-TypeExpr e ≡ layer.Array p y u
        → SimpleAdds exports w y c → c ≡ a
    index_adds {c = c} q m = index.only names there knows frees c
        (subst (λ (y : Simple). SimpleAdds exports w y c) (same_index q) m)

    whole_out : {n : Added} {t : TypeNo} → Whole (n, t) → (k : Both) × (Index k.0 × Elements k.1)
        × (Small k × (◌≡◌ {A = MadeType} (n, t) (result k)))
    whole_out (is_simple q m) = let z = sym h ∙ q in absurd cc
    whole_out (rules.is_procedure q m n) = let z = sym h ∙ q in absurd cc
    whole_out (rules.is_record q m d l) = let z = sym h ∙ q in absurd cc
    whole_out (rules.is_array {a = c} {b = d} {i = i} {t = u} q m w n l) = let z = indexed q m in
        (((c, i), (d, u)), ((z, w), elemented q z n), (l, refl))

    fails_in : (f : Breach) → PartsFail f → WholeFails f
    fails_in f (inl (inl (inl b))) = rules.in_index h b
    fails_in f (inl (inl (inr (k, m, (n, q))))) = subst WholeFails (sym q) (rules.no_index h m n)
    fails_in f (inl (inr b)) = rules.in_elements h (index.added names there knows frees) b
    fails_in f (inr (k, i, (l, q))) = subst WholeFails (sym q)
        (rules.too_large h i.0.0 i.0.1 (then_there k.0 i.0.0 i.1) l)

    whole_fails : (f : Breach) → WholeFails f → PartsFail f
    whole_fails f (in_simple q b) = let z = sym h ∙ q in absurd cc
    whole_fails f (rules.in_parameter q m b) = let z = sym h ∙ q in absurd cc
    whole_fails f (rules.at_result q b) = let z = sym h ∙ q in absurd cc
    whole_fails f (rules.in_fields q m) = let z = sym h ∙ q in absurd cc
    whole_fails f (rules.field_twice q d) = let z = sym h ∙ q in absurd cc
    whole_fails f (rules.too_many_cells q m d l) = let z = sym h ∙ q in absurd cc
    whole_fails f (rules.in_index q b) = inl
        (inl (inl (subst (λ (y : Simple). BrokenSimpleType exports w y f) (same_index q) b)))
    whole_fails f (rules.no_index {a = c} {i = i} q m n) =
        inl (inl (inr ((c, i), indexed q m, (n, ap (λ (y : Simple). place_of y ! rule.NoIndex) (same_index q)))))
    whole_fails f (rules.in_elements {a = c} q m b) =
        inl (inr (subst (λ (c : Added). BrokenType exports (behind w c) of f) (index_adds q m)
        (subst (λ (u : TypeExpr). BrokenType exports (behind w c) u f) (same_of q) b)))
    whole_fails f (rules.too_large {a = c} {b = d} {i = i} {t = u} q m w n l) = let z = indexed q m in
        inr (((c, i), (d, u)), ((z, w), elemented q z n), (l, ap (λ (p : Pos). p ! rule.LargeType) (same_at q)))

    abbrev ArrayThere : Made → Type 0
    ArrayThere m = (k : Both) × (Index k.0 × Elements k.1) × ArrayIs k m

    whole_answers : Answers g j R Equal ArrayThere WholeFails made_result
    whole_answers = exact g j lawful R (λ m z. z) (λ m z. z) fails_in whole_fails parts_answer

    abbrev made_by : Added → Added → Made → MadeType
    made_by a b m = (
      both_added a (both_added b (type_added m)),
      next_type
          (with_types (with_types s.types a.makes) b.makes),
    )

    made_same : {c d : Added} {m n : Made} → c ≡ a → d ≡ b → m ≡ n → made_by c d m ≡ made_by a b n
    made_same {d = d} {m = m} {n = n} p q r = ap (λ (c : Added). made_by c d m) p ∙ ap (λ (d : Added). made_by a d m) q
        ∙ ap (λ (m : Made). made_by a b m) r

    made_answers : (m : Made) → Answers g j R Equal ArrayThere WholeFails (Ok m)
        → Answers g j R (Is (both_added a (both_added b (type_added m)))) Whole WholeFails (Ok (next_type S2.types))
    made_answers m (means _ n q (k, i, (l, v)) u c) = means (next_type S2.types) (made_by a b m) refl
        (subst Whole (made_same (one k.0 i.0.0) (alone k.1 i.1) (sym v ∙ sym q)) (whole_in k i l)) (λ y z. same y z) c
      where
        same : (y : MadeType) → Whole y → y ≡ made_by a b m
        same y z = let p = whole_out z in p.2.1
            ∙ made_same (one p.0.0 p.1.0.0) (alone p.0.1 p.1.1)
            (u (array_made (T p.0) p.0.0.1 p.0.1.1) (p.0, p.1, (p.2.0, refl)) ∙ sym q)

    unmade_answers : (r : g.Reported) → Answers g j R Equal ArrayThere WholeFails (Err r)
        → Answers g j R (Is (both_added a b)) Whole WholeFails (Err r)
    unmade_answers r (refuses _ c n) = refuses r c
        (λ y z. let p = whole_out z in n (array_made (T p.0) p.0.0.1 p.0.1.1) (p.0, p.1, (p.2.0, refl)))

    made_added : {c : Added} {t : TypeNo} → Answers g j R (Is c) Whole WholeFails (Ok t) → Adds exports w e c
    made_added {c = c} (means t k i m u n) = rules.right_adds (subst Whole i m)

    made_only : {c : Added} {t : TypeNo} → Answers g j R (Is c) Whole WholeFails (Ok t) → {d : Added}
        → Adds exports w e d → d ≡ c
    made_only v (rules.simple_adds q m) = let z = sym h ∙ q in absurd cc
    made_only v (rules.right_adds {a = d} {t = t} m) = one_added g j lawful exports s v (d, t) m
    made_only (means t k i m u n) (rules.parts_add q none y z) = absurd (none k.0 k.1 m)
    made_only (means t k i m u n) (rules.no_procedure q none) = absurd (none k.0 k.1 m)
    made_only (means t k i m u n) (rules.fields_add q none y) = absurd (none k.0 k.1 m)

    none_whole : {c : Added} {r : g.Reported} → Answers g j R (Is c) Whole WholeFails (Err r) → (d : Added) (t : TypeNo)
        → IsTypeOf exports w e d t → ⊥
    none_whole (refuses r c n) d t m = n (d, t) m

    unmade_added : {c : Added} {r : g.Reported} → Answers g j R (Is c) Whole WholeFails (Err r)
        → Adds exports w e (both_added a b)
    unmade_added v = rules.parts_add h (none_whole v) (index.added names there knows frees)
        (elements.added w1.names w1.there knows1 frees1)

    parts_only : {c d : Added} → c ≡ a → Adds exports (behind w c) of d → both_added c d ≡ both_added a b
    parts_only {d = d} p m = ap (λ (c : Added). both_added c d) p
        ∙ ap (λ (d : Added). both_added a d) (elements.only w1.names w1.there knows1 frees1 d
        (subst (λ (c : Added). Adds exports (behind w c) of d) p m))

    unmade_only : {c : Added} {r : g.Reported} → Answers g j R (Is c) Whole WholeFails (Err r) → {d : Added}
        → Adds exports w e d → d ≡ both_added a b
    unmade_only v (rules.simple_adds q m) = let z = sym h ∙ q in absurd cc
    unmade_only v (rules.right_adds {a = d} {t = t} m) = absurd (none_whole v d t m)
    unmade_only v (rules.parts_add {a = c} {b = d} q none y z) =
        parts_only (index_adds q y) (subst (λ (u : TypeExpr). Adds exports (behind w c) u d) (same_of q) z)
    unmade_only v (rules.no_procedure q none) = let z = sym h ∙ q in absurd cc
    unmade_only v (rules.fields_add q none y) = let z = sym h ∙ q in absurd cc

  abbrev with_own_types : List Made → Scope g.Reported
  with_own_types ms = record s { own = elements.own; types = record s.types { own = ms } }

  constants_both : (n : List ℕ) → Decided (Named (constants_in e) n) (is_some (find_name n (a.brings ++ b.brings)))
  constants_both = constants_as (a.brings ++ b.brings) (constants_at e (layer.Array at x of) h)
      (λ n. both_decided (constants_listed x) a.brings b.brings n (index.constants n) (elements.constants n))

  final_read : (r : Result Made g.Reported)
      → ((names : Ident → Standing) (there : List ℕ → Bool) (k : Knows g j names exports s) (f : Frees s there)
      → Answers g j (Repeats g j names s) Equal (ArrayThere names there k f) (WholeFails names there k f) r)
      → Read g j lawful exports s e (with_made S2 r)
  final_read (Ok m) v = record {
    adds = both_added a (both_added b (type_added m));
    own = elements.own;
    is = ap (λ (ms : List Made). with_own_types ms) (assoc_made s.types.own a.makes b.makes (m ∷ []));
    enters = enters_all;
    constants = constants_all;
    exact = λ names there k f. made_answers names there k f m (v names there k f);
    added = λ names there k f. made_added names there k f (made_answers names there k f m (v names there k f));
    only = λ names there k f d z. made_only names there k f (made_answers names there k f m (v names there k f)) z;
  }
    where
      enters_all : Enters (a.brings ++ (b.brings ++ [])) s.own elements.own
      enters_all = subst (λ (bs : List (List ℕ × rules.Member)). Enters (a.brings ++ bs) s.own elements.own)
          (sym (nil_right b.brings)) (enters_both a.brings b.brings s.own index.own elements.own index.enters
          elements.enters)

      constants_all : (n : List ℕ) → Decided (Named (constants_in e) n)
          (is_some (find_name n (a.brings ++ (b.brings ++ []))))
      constants_all = subst (λ (bs : List (List ℕ × rules.Member)). (n : List ℕ)
          → Decided (Named (constants_in e) n) (is_some (find_name n (a.brings ++ bs)))) (sym (nil_right b.brings))
          constants_both
  final_read (Err r) v = record {
    adds = both_added a b;
    own = elements.own;
    is = ap (λ (ms : List Made). with_own_types ms) (append_assoc s.types.own a.makes b.makes);
    enters = enters_both a.brings b.brings s.own index.own elements.own index.enters elements.enters;
    constants = constants_both;
    exact = λ names there k f. unmade_answers names there k f r (v names there k f);
    added = λ names there k f. unmade_added names there k f (unmade_answers names there k f r (v names there k f));
    only = λ names there k f d z. unmade_only names there k f (unmade_answers names there k f r (v names there k f)) z;
  }

  abbrev built : Scope g.Reported → Scope g.Reported → State TypeNo g.Reported
  built t u = array_state g at u (index_in g t.types (simple_place x) (simple_type g s x).1) (type_of g of t).1

  built_read : Read g j lawful exports s e (built S1 (type_of g of S1).0)
  built_read = subst (λ (u : Scope g.Reported). Read g j lawful exports s e (built S1 u)) (sym elements.is)
      (final_read made_result whole_answers)

  pub array_read : Read g j lawful exports s e (type_of g e s)
  array_read = subst (λ (m : Makes g). Read g j lawful exports s e (m s))
      (sym (type_at g j lawful exports s e (layer.Array at x of) h))
      (subst (λ (t : Scope g.Reported). Read g j lawful exports s e (built t (type_of g of t).0)) (sym index.is)
      built_read)

-- ---- procedure types

module _ (g : Gathers) (j : Judges g) (lawful : Lawful g j) (exports : ℕ → Ident → Standing) (s : Scope g.Reported)
    (e : TypeExpr) (at : Pos) (ps : List Parameter) (q : Option Qualified)
    (h : out-TypeExpr e ≡ layer.Procedure at ps q) where
  module _ (w : Setting) where
    abbrev Rep : Breach → Type 0
    Rep = Repeats g j w.names s

    abbrev Sig : Signature → Type 0
    Sig x = AreParameters w.types w.names exports ps x.formals × GivesBack w.types w.names exports q x.result

    abbrev SigFails : Breach → Type 0
    SigFails f = ((p : Parameter) × Among p ps × BrokenTypeName w.names exports p.of.of f)
        ⊎ BrokenResult w.types w.names exports q f

    abbrev SigSo : Result Made g.Reported → Type 0
    SigSo r = Answers g j Rep (λ (m : Made) (x : Signature). m ≡ procedure_made x) Sig SigFails r

    abbrev Typed : MadeType → Type 0
    Typed k = IsTypeOf exports w e k.0 k.1

    same_parameters : {p : Pos} {xs : List Parameter} {r : Option Qualified} → out-TypeExpr e ≡ layer.Procedure p xs r
        → xs ≡ ps
    same_parameters v = let z = sym v ∙ h in cc

    same_result : {p : Pos} {xs : List Parameter} {r : Option Qualified} → out-TypeExpr e ≡ layer.Procedure p xs r
        → r ≡ q
    same_result v = let z = sym v ∙ h in cc

    signed : {a : Added} {t : TypeNo} → IsTypeOf exports w e a t → (x : Signature) × Sig x
        × ((a ≡ type_added (procedure_made x)) × (t ≡ next_type w.types))
    signed (is_simple v m) = let z = sym h ∙ v in absurd cc
    signed (rules.is_array v m i n l) = let z = sym h ∙ v in absurd cc
    signed (rules.is_record v m d l) = let z = sym h ∙ v in absurd cc
    signed (rules.is_procedure {s = x} v m n) = (
      x,
      (
        subst (λ (xs : List Parameter). AreParameters w.types w.names exports xs x.formals) (same_parameters v) m,
        subst (λ (r : Option Qualified). GivesBack w.types w.names exports r x.result) (same_result v) n,
      ),
      (refl, refl),
    )

    sig_in : (f : Breach) → SigFails f → BrokenType exports w e f
    sig_in f (inl (p, m, b)) = rules.in_parameter h m b
    sig_in f (inr b) = rules.at_result h b

    sig_out : {f : Breach} → BrokenType exports w e f → SigFails f
    sig_out (in_simple v b) = let z = sym h ∙ v in absurd cc
    sig_out (rules.in_parameter {x = p} v m b) =
        inl (p, subst (λ (xs : List Parameter). Among p xs) (same_parameters v) m, b)
    sig_out {f = f} (rules.at_result v b) =
        inr (subst (λ (r : Option Qualified). BrokenResult w.types w.names exports r f) (same_result v) b)
    sig_out (rules.in_index v b) = let z = sym h ∙ v in absurd cc
    sig_out (rules.no_index v m n) = let z = sym h ∙ v in absurd cc
    sig_out (rules.in_elements v m b) = let z = sym h ∙ v in absurd cc
    sig_out (rules.too_large v m i n l) = let z = sym h ∙ v in absurd cc
    sig_out (rules.in_fields v m) = let z = sym h ∙ v in absurd cc
    sig_out (rules.field_twice v d) = let z = sym h ∙ v in absurd cc
    sig_out (rules.too_many_cells v m d l) = let z = sym h ∙ v in absurd cc

    signed_there : (m : Made) → SigSo (Ok m)
        → Answers g j Rep (Is (type_added m)) Typed (BrokenType exports w e) (Ok (next_type w.types))
    signed_there m (means _ x i (y, v) u c) = means (next_type w.types) (type_added m, next_type w.types) refl
        (subst (λ (n : Made). IsTypeOf exports w e (type_added n) (next_type w.types)) (sym i)
        (rules.is_procedure h y v)) (λ l z. same l z) (λ f b. c f (sig_out b))
      where
        same : (l : MadeType) → Typed l → l ≡ (type_added m, next_type w.types)
        same l z = let y = signed z in ap (λ (a : Added). let o : MadeType = (a, l.1) in o)
            (y.2.0 ∙ ap (λ (x : Signature). type_added (procedure_made x)) (u y.0 y.1)
            ∙ ap (λ (n : Made). type_added n) (sym i))
            ∙ ap (λ (t : TypeNo). let o : MadeType = (type_added m, t) in o) y.2.1

    signed_nowhere : (r : g.Reported) → SigSo (Err r)
        → Answers g j Rep (Is nothing_added) Typed (BrokenType exports w e) (Err r)
    signed_nowhere r (refuses _ c n) = refuses r
        (record {
          only = λ f m. elim (c.only f m) [ inl b ↦ inl (sig_in f b) | inr o ↦ inr o ];
          each =
              λ f b. c.each f (sig_out b);
        }) (λ l z. let y = signed z in n y.0 y.1)

    typed_added : {a : Added} {t : TypeNo} → Answers g j Rep (Is a) Typed (BrokenType exports w e) (Ok t)
        → Adds exports w e a
    typed_added (means t k i m u n) = rules.right_adds (subst Typed i m)

    typed_only : {a : Added} {t : TypeNo} → Answers g j Rep (Is a) Typed (BrokenType exports w e) (Ok t) → {c : Added}
        → Adds exports w e c → c ≡ a
    typed_only v (rules.simple_adds p m) = let z = sym h ∙ p in absurd cc
    typed_only v (rules.right_adds {a = d} {t = t} m) = one_added g j lawful exports s v (d, t) m
    typed_only v (rules.parts_add p n y z) = let z = sym h ∙ p in absurd cc
    typed_only (means t k i m u c) (rules.no_procedure p n) = absurd (n k.0 k.1 m)
    typed_only v (rules.fields_add p n y) = let z = sym h ∙ p in absurd cc

    untyped_added : {a : Added} {r : g.Reported} → Answers g j Rep (Is a) Typed (BrokenType exports w e) (Err r)
        → Adds exports w e nothing_added
    untyped_added (refuses r c n) = rules.no_procedure h (λ a t m. n (a, t) m)

    untyped_only : {a : Added} {r : g.Reported} → Answers g j Rep (Is a) Typed (BrokenType exports w e) (Err r)
        → {c : Added} → Adds exports w e c → c ≡ nothing_added
    untyped_only v (rules.simple_adds p m) = let z = sym h ∙ p in absurd cc
    untyped_only (refuses r c n) (rules.right_adds {a = d} {t = t} m) = absurd (n (d, t) m)
    untyped_only v (rules.parts_add p n y z) = let z = sym h ∙ p in absurd cc
    untyped_only v (rules.no_procedure p n) = refl
    untyped_only v (rules.fields_add p n y) = let z = sym h ∙ p in absurd cc

  signed_read : (r : Result Made g.Reported)
      → ((names : Ident → Standing) (there : List ℕ → Bool) → Knows g j names exports s
      → SigSo (set_in s names there) r) → Read g j lawful exports s e (with_made s r)
  signed_read (Ok m) v = record {
    adds = type_added m;
    own = s.own;
    is = refl;
    enters = enters_nothing s.own;
    constants = constants_as [] (constants_at e (layer.Procedure at ps q) h) (λ n. fails_it (λ z. elim z.1 [ ]));
    exact = λ names there k f. signed_there (set_in s names there) m (v names there k);
    added = λ names there k f. typed_added (set_in s names there)
        (signed_there (set_in s names there) m (v names there k));
    only = λ names there k f a z. typed_only (set_in s names there)
        (signed_there (set_in s names there) m (v names there k)) z;
  }
  signed_read (Err r) v = record {
    adds = nothing_added;
    own = s.own;
    is = no_made s;
    enters = enters_nothing s.own;
    constants = constants_as [] (constants_at e (layer.Procedure at ps q) h) (λ n. fails_it (λ z. elim z.1 [ ]));
    exact = λ names there k f. signed_nowhere (set_in s names there) r (v names there k);
    added = λ names there k f. untyped_added (set_in s names there)
        (signed_nowhere (set_in s names there) r (v names there k));
    only = λ names there k f a z. untyped_only (set_in s names there)
        (signed_nowhere (set_in s names there) r (v names there k)) z;
  }

  pub procedure_read : Read g j lawful exports s e (type_of g e s)
  procedure_read = subst (λ (m : Makes g). Read g j lawful exports s e (m s))
      (sym (type_at g j lawful exports s e (layer.Procedure at ps q) h))
      (signed_read (procedure_type g s ps q)
      (λ names there k. procedure_type_answers g j lawful names exports s k ps q))
