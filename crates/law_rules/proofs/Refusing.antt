-- What is refused of a heading inside its procedure is refused where it stands.
use Rattle.std.proofs.Common.{◌≡◌, ℕ, Bool, false, List, Option, ◌⊎◌, inl, inr, refl, sym, subst, ◌∙◌}
use Rattle.m2_rule.specs.declared.breach.Breach.{Breach}
use Rattle.m2_tree.specs.declared.pos.Pos.{Pos}
use Rattle.m2_tree.specs.declared.name.Ident.{Ident}
use Rattle.m2_tree.specs.declared.expr.Qualified.{Qualified}
use Rattle.m2_tree.specs.declared.decl.Section.{Section}
use Rattle.m2_tree.specs.declared.decl.Heading.{Heading}
use Rattle.typed_tree.specs.declared.types.TypeNo.{TypeNo}
use Rattle.typed_tree.specs.declared.known_types.Types.{Types}
use Rattle.check_scope.specs.declared.scope.Scope.{Scope}
use Rattle.check_scope.specs.Elaborated.{Gathers}
use Rattle.check_scope.specs.Scopes.{looked_up}
use Rattle.def_typing.specs.Things.{Thing, AType, AModule, Standing, Known, Ahead, Undeclared}
use Rattle.def_typing.specs.Parts.{Among}
use Rattle.def_typing.specs.Constants.{Misses, no_name, other_sort, a_procedure}
use Rattle.def_typing.specs.TypeNames as type_names
use Rattle.def_typing.specs.TypeNames.{NamesType, BrokenTypeName}
use Rattle.def_typing.specs.Headings as headings
use Rattle.def_typing.specs.Headings.{BrokenResult, BrokenHeading}
use Rattle.def_typing.specs.Declarations as rules
use Rattle.def_typing.specs.Declarations.{Declaration, OfConstant, OfType, OfVariables, OfProcedure, AnyDeclares, IsFirst, Declared as Resolved, in_order, IsThere, types_behind, in_front_of}
use Rattle.def_typing.specs.Bodies as bodies
use Rattle.def_typing.specs.Bodies.{IsProcedure, SeenAs}
use Rattle.law_typing.specs.Judging.{Judges}
use Rattle.law_typing.specs.Exact.{Sees, Knows, is_nested}
use Rattle.law_typing.proofs.Declaring.{any_named, any_first}
use Rattle.law_rules.proofs.Reading.{Stands, All, Breaks, IsHeading, any_there, there_any, never_undeclared, stands_outside, stands_heading, heading_stands, HeadingAt}
use Rattle.law_rules.proofs.Seeing.{sees_two}
use Rattle.law_rules.proofs.Extending.{Extends, extends_result}

-- ---- what a name stands for inside, and in front of the heading

pub data Alike (s t : Standing) : Type 0 where
  is_same : s ≡ t → Alike s t
  is_later : IsProcedure s → t ≡ Ahead → Alike s t

misses_ahead : {Fits : Thing → Type 0} {spot at : Pos} {f : Breach} {s : Standing} → IsProcedure s
    → Misses Fits spot at s f → Misses Fits spot at Ahead f
misses_ahead bodies.of_module (no_name m) = elim m.misnamed [ ]
misses_ahead bodies.of_module (other_sort z) = a_procedure
misses_ahead bodies.of_procedure (no_name m) = elim m.misnamed [ ]
misses_ahead bodies.of_procedure (other_sort z) = a_procedure
misses_ahead bodies.headless (no_name m) = elim m.misnamed [ ]
misses_ahead bodies.headless (other_sort z) = a_procedure

misses_as : {Fits : Thing → Type 0} {spot at : Pos} {f : Breach} {s t : Standing} → Alike s t → Misses Fits spot at s f
    → Misses Fits spot at t f
misses_as {Fits = Fits} {spot = spot} {at = at} {f = f} (is_same e) m =
    subst (λ (s : Standing). Misses Fits spot at s f) e m
misses_as {Fits = Fits} {spot = spot} {at = at} {f = f} (is_later p e) m =
    subst (λ (s : Standing). Misses Fits spot at s f) (sym e) (misses_ahead p m)

type_as : {s t : Standing} {u : TypeNo} → Alike s t → s ≡ Known (AType u) → t ≡ Known (AType u)
type_as (is_same e) q = sym e ∙ q
type_as (is_later p e) q = elim (subst IsProcedure q p) [ ]

module_as : {s t : Standing} {k : ℕ} → Alike s t → s ≡ Known (AModule k) → t ≡ Known (AModule k)
module_as (is_same e) q = sym e ∙ q
module_as (is_later p e) q = elim (subst IsProcedure q p) [ ]

module _ (g : Gathers) (j : Judges g) (exports : ℕ → Ident → Standing) (outside : Ident → Standing)
    (start : Scope g.Reported) (taken : List ℕ → Bool) (awaited : List ℕ → Option TypeNo) (block : List Declaration)
    (whole : List Resolved) (order : in_order whole ≡ block)
    (w : Scope g.Reported) (knows : (names : Ident → Standing)
    → All start.types exports outside taken awaited (is_nested start) block whole names → Knows g j names exports w)
    (front : List Declaration) (names : Ident → Standing)
    (all : All start.types exports outside taken awaited (is_nested start) block whole names)
    (sight : Ident → Standing) (sees : (name : Ident) → SeenAs taken block front names name (sight name))
    (h : Heading) (at : HeadingAt start.types exports outside taken awaited (is_nested start) block whole front h) where
  abbrev SW : List Resolved → Ident → Standing → Type 0
  SW = Stands start.types exports outside taken awaited (is_nested start) block

  data PickIs (name : Ident) (s : Standing) : Type 0 where
    stays_so : SW whole name s → (taken name.name ≡ false → AnyDeclares block name.name → IsThere at.before name.name)
        → PickIs name s
    comes_later : (d : Declaration) → taken name.name ≡ false → IsFirst name.name d block
        → (IsThere at.before name.name → ⊥) → s ≡ in_front_of d → PickIs name s

  pick_by : (name : Ident) {s : Standing} → SW at.before name s → PickIs name s
  pick_by name (rules.declared {before = b} {d = d} t i o m) =
      stays_so (rules.declared t (at.named name.name d b i) o m) (λ u a. any_named i)
  pick_by name (rules.enumerated {before = b} {d = d} t i o m e) =
      stays_so (rules.enumerated t (at.named name.name d b i) o m e) (λ u a. any_named i)
  pick_by name (rules.not_yet {d = d} t i n) = comes_later d t i n refl
  pick_by name (rules.from_outside c) = stays_so (rules.from_outside c) (λ t a. absurd (c t a))

  picked : (name : Ident) → PickIs name (at.names name)
  picked name = pick_by name (at.all name)

  other_by : (name : Ident) {s : Standing} → PickIs name s → (t : Standing) × SW whole name t
  other_by name {s = s} (stays_so st k) = (s, st)
  other_by name (comes_later d t i n e) = (names name, all name)

  abbrev others : Ident → Standing
  others name = (other_by name (picked name)).0

  others_stand : All start.types exports outside taken awaited (is_nested start) block whole others
  others_stand name = (other_by name (picked name)).1

  module _ (name : Ident) where
    in_block : {s : Standing} → SW whole name s → ((taken name.name ≡ false) × AnyDeclares block name.name)
        ⊎ (taken name.name ≡ false → AnyDeclares block name.name → ⊥)
    in_block (rules.declared t i o m) = inl
        (t, subst (λ (ds : List Declaration). AnyDeclares ds name.name) order (there_any whole (any_named i)))
    in_block (rules.enumerated t i o m e) =
        inl (t, subst (λ (ds : List Declaration). AnyDeclares ds name.name) order (there_any whole (any_named i)))
    in_block (rules.not_yet t i n) = inl (t, any_first i)
    in_block (rules.from_outside c) = inr c

    one_standing : (s : Standing) → SW whole name s → Sees g j name.pos s (looked_up g w name) → names name ≡ s
    one_standing s st z = by (in_block st)
      where
        by : ((taken name.name ≡ false) × AnyDeclares block name.name)
            ⊎ (taken name.name ≡ false → AnyDeclares block name.name → ⊥) → names name ≡ s
        by (inl (t, a)) = sees_two g j ((knows names all).of_names name) z refl
            (λ e. never_undeclared start.types exports outside taken awaited (is_nested start) block whole order name t
            a (all name) e)
            (λ e. never_undeclared start.types exports outside taken awaited (is_nested start) block whole order name t
            a st e)
        by (inr c) = stands_outside start.types exports outside taken awaited (is_nested start) block whole order name c
            (all name)
            ∙ sym (stands_outside start.types exports outside taken awaited (is_nested start) block whole order name c
            st)

    front_there : AnyDeclares front name.name → IsThere at.before name.name
    front_there a = any_there at.before (subst (λ (ds : List Declaration). AnyDeclares ds name.name) (sym at.order) a)

    there_front : IsThere at.before name.name → AnyDeclares front name.name
    there_front a = subst (λ (ds : List Declaration). AnyDeclares ds name.name) at.order (there_any at.before a)

    heading_ahead : (d : Declaration) → IsHeading d → in_front_of d ≡ Ahead
    heading_ahead (OfConstant c) p = absurd p
    heading_ahead (OfType d) p = absurd p
    heading_ahead (OfVariables v) p = absurd p
    heading_ahead (OfProcedure h) p = refl

    heading_decided : (d : Declaration) → (IsHeading d) ⊎ (in_front_of d ≡ Undeclared)
    heading_decided (OfConstant c) = inr refl
    heading_decided (OfType d) = inr refl
    heading_decided (OfVariables v) = inr refl
    heading_decided (OfProcedure h) = inl tt

    alike_by : {s : Standing} (p : PickIs name s) → Sees g j name.pos (other_by name p).0 (looked_up g w name)
        → {u : Standing} → SeenAs taken block front names name u → Alike u s
    unfolding other_by
    alike_by {s = s} (stays_so st k) z (bodies.in_front i) = is_same (one_standing s st z)
    alike_by {s = s} (stays_so st k) z (bodies.a_procedure p) = is_same (one_standing s st z)
    alike_by (stays_so st k) z (bodies.not_yet t a c n) = absurd (c (there_front (k t a)))
    alike_by (comes_later d t i n e) z (bodies.in_front h) = absurd (n (front_there (h t (any_first i))))
    alike_by (comes_later d t i n e) z (bodies.a_procedure p) =
        is_later p (e ∙ heading_ahead d (stands_heading start.types exports outside taken awaited (is_nested start)
        block whole order name t i (all name) p))
    alike_by {s = s} (comes_later d t i n e) z (bodies.not_yet u a c m) = by (heading_decided d)
      where
        by : (IsHeading d) ⊎ (in_front_of d ≡ Undeclared) → Alike Undeclared s
        by (inl q) = absurd (m (heading_stands start.types exports outside taken awaited (is_nested start) block whole
            order name t i (all name) q))
        by (inr q) = is_same (sym (e ∙ q))

    alike : Alike (sight name) (at.names name)
    alike = alike_by (picked name) ((knows others others_stand).of_names name) (sees name)

  names_type : (q : Qualified) (t : TypeNo) → NamesType sight exports q t → NamesType at.names exports q t
  names_type q t (type_names.alone e m) = type_names.alone e (type_as (alike q.name) m)
  names_type q t (type_names.of_module {home = home} e m n) = type_names.of_module e (module_as (alike home) m) n

  broken_type : (q : Qualified) (f : Breach) → BrokenTypeName sight exports q f → BrokenTypeName at.names exports q f
  broken_type q f (type_names.at_name e m) = type_names.at_name e (misses_as (alike q.name) m)
  broken_type q f (type_names.at_module {home = home} e m) = type_names.at_module e (misses_as (alike home) m)
  broken_type q f (type_names.in_module {home = home} e m n) = type_names.in_module e (module_as (alike home) m) n

  heading_breaks : (f : Breach) → BrokenHeading (types_behind start.types at.before) at.names exports h f
      → Breaks start.types exports outside taken awaited (is_nested start) block whole f
  heading_breaks f b = at.broken f (rules.inside at.all
      (subst (λ (d : Declaration). rules.Misdeclares exports
      (rules.setting start.types exports outside taken awaited (is_nested start) block at.before d at.names) d f)
      (sym at.heads) (rules.in_heading b)))

  pub formal_refused : (x : Section) → Among x h.formals → (f : Breach) → BrokenTypeName sight exports x.of.of f
      → Breaks start.types exports outside taken awaited (is_nested start) block whole f
  formal_refused x m f b = heading_breaks f (headings.in_formal m (broken_type x.of.of f b))

  result_as : (types : Types) → Extends (types_behind start.types at.before) types → (f : Breach) {q : Option Qualified}
      → BrokenResult types sight exports q f → BrokenResult (types_behind start.types at.before) at.names exports q f
  result_as types e f (headings.in_result {q = q} b) = headings.in_result (broken_type q f b)
  result_as types e f (headings.no_result {q = q} {t = t} n i) =
      headings.no_result (names_type q t n) (λ r. i (extends_result e t r))

  pub result_refused : (types : Types) → Extends (types_behind start.types at.before) types → (f : Breach)
      → BrokenResult types sight exports h.result f
      → Breaks start.types exports outside taken awaited (is_nested start) block whole f
  result_refused types e f b = heading_breaks f (headings.at_result (result_as types e f b))
