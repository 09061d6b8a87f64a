-- What names mean where the block of a procedure begins, by number.
use Rattle.std.proofs.Common.{◌≡◌, ℕ, ◌+◌, Bool, true, false, cond, List, [], ◌∷◌, length, Option, Some, None, Result, Ok, refl, sym, ap, subst, ◌∙◌, arith}
use Rattle.m2_tree.specs.declared.name.Ident.{Ident}
use Rattle.m2_tree.specs.declared.decl.Section.{Section}
use Rattle.m2_tree.specs.declared.decl.Heading.{Heading}
use Rattle.typed_tree.specs.declared.meaning.LocalKind.{LocalKind}
use Rattle.typed_tree.specs.declared.meaning.Meaning.{Meaning}
use Rattle.typed_tree.specs.declared.meaning.Meaning.TheVariants as meaning
use Rattle.typed_tree.specs.declared.shape.Formal.{Formal}
use Rattle.typed_tree.specs.declared.types.TypeNo.{TypeNo}
use Rattle.typed_tree.specs.Names.{find_name}
use Rattle.check_scope.specs.declared.known.Known.{Known}
use Rattle.check_scope.specs.declared.meaningless.Meaningless.{Meaningless}
use Rattle.check_scope.specs.declared.scope.OpenedRecord.{OpenedRecord}
use Rattle.check_scope.specs.declared.scope.Scope.{Scope}
use Rattle.check_scope.specs.Elaborated.{Gathers, ◌▷◌}
use Rattle.check_scope.specs.Scopes.{or_around, known_outside, means_as, means_or, open_field, looked_up}
use Rattle.check_type_expr.specs.Named.{named_type}
use Rattle.check_type_expr.specs.Headings.{formal_of}
use Rattle.check_block.specs.Inner.{formal_kind, formals_in, with_formals}
use Rattle.def_typing.specs.Parts.{Among, here, later}
use Rattle.def_typing.specs.Things.{Standing}
use Rattle.def_typing.specs.TypeNames.{NamesType, BrokenTypeName}
use Rattle.def_typing.specs.Declarations.{is_among, names_in}
use Rattle.def_typing.specs.Bodies.{formal_named}
use Rattle.def_typed.specs.Named.{named, named_by}
use Rattle.def_typed.specs.Blocks.{kind_of_formal, IsFirstAt, MeansInside, a_formal, no_formal}
use Rattle.law_typing.specs.Judging.{Judges, Answers, means, refuses}
use Rattle.law_typing.specs.Exact.{Repeats}
use Rattle.law_typing.proofs.Combining.{Lawful}
use Rattle.law_typing.proofs.TypeNaming.{type_name_answers}
use Rattle.law_numbers.specs.Inside.{Surrounds, AreSensedInside, InsidesAreKnown}
use Rattle.law_numbers.proofs.Formals.{entry, formal_place, sections_leave, sections_at, sections_count}

section_among : (n : List ℕ) (xs : List Section) (x : Section) → formal_named n xs ≡ Some x → Among x xs
section_among n [] x e = absurd cc
section_among n (y ∷ xs) x e = by (is_among n y.names) e (section_among n xs x)
  where
    same : {y x : Section} → ◌≡◌ {A = Option Section} (Some y) (Some x) → y ≡ x
    same e = cc

    by : (b : Bool) → cond b (Some y) (formal_named n xs) ≡ Some x → (formal_named n xs ≡ Some x → Among x xs)
        → Among x (y ∷ xs)
    by true q rest = subst (λ (z : Section). Among z (y ∷ xs)) (same q) here
    by false q rest = later (rest q)

kind_is : (f : Formal) → formal_kind f ≡ kind_of_formal f.is_var f.is_open
kind_is f = by f.is_open f.is_var
  where
    by : (o v : Bool) → formal_kind (record { is_var = v; is_open = o; of = f.of }) ≡ kind_of_formal v o
    by true v = refl
    by false true = refl
    by false false = refl

module _ (g : Gathers) (j : Judges g) (lawful : Lawful g j) (exports : ℕ → Ident → Standing) (seen : Ident → Standing)
    (around : Ident → Option Meaning) (s : Scope g.Reported) (b : Surrounds g j exports seen around s) (h : Heading)
    (types : (x : Section) → Among x h.formals → (t : TypeNo) × NamesType seen exports x.of.of t) where
  abbrev entered : Scope g.Reported
  entered = with_formals s (formals_in g s h.formals)

  looked_inside : (name : Ident) → looked_up g entered name
      ≡ means_as g name.pos (or_around (find_name name.name entered.own) (known_outside name.name s.outer))
  looked_inside name = ap (λ (ws : List OpenedRecord). means_or (open_field s.types name.name ws)
      (means_as g name.pos (or_around (find_name name.name entered.own) (known_outside name.name s.outer)))) b.no_withs

  looked_before : (name : Ident) → looked_up g s name ≡ means_as g name.pos (known_outside name.name s.outer)
  looked_before name = ap (λ (ws : List OpenedRecord). means_or (open_field s.types name.name ws)
      (means_as g name.pos (or_around (find_name name.name s.own) (known_outside name.name s.outer)))) b.no_withs
      ∙ ap (λ (own : List (List ℕ × Known g.Reported)). means_as g name.pos
      (or_around (find_name name.name own) (known_outside name.name s.outer))) b.no_names

  -- ---- the types of formals

  made : Section → TypeNo → Formal
  made x t = record { is_var = x.is_var; is_open = x.of.is_open; of = t }

  abbrev Named : Section → TypeNo → Type 0
  Named x t = NamesType seen exports x.of.of t

  -- what is answered of a formal's type, which is named
  abbrev IsType : Section → Type 0
  IsType x = (t : TypeNo) × (formal_of g s x.is_var x.of
      ≡ Ok (record { is_var = x.is_var; is_open = x.of.is_open; of = t })) × ((u : TypeNo) → Named x u → u ≡ t)

  type_by : (x : Section) (t : TypeNo) → Named x t → (r : Result TypeNo g.Reported) → named_type g s x.of.of ≡ r
      → Answers g j (Repeats g j seen s) (λ (t u : TypeNo). t ≡ u) (NamesType seen exports x.of.of)
      (BrokenTypeName seen exports x.of.of) r → IsType x
  type_by x t n _ e (means a u i m only z) = (
    a,
    ap (λ (r : Result TypeNo g.Reported). r ▷ λ t. Ok
        (record { is_var = x.is_var; is_open = x.of.is_open; of = t })) e,
    λ v k. only v k ∙ sym i,
  )
  type_by x t n _ e (refuses r acc never) = absurd (never t n)

  type_is : (x : Section) → Among x h.formals → IsType x
  type_is x m = let n = types x m in type_by x n.0 n.1 (named_type g s x.of.of) refl
      (type_name_answers g j lawful seen exports s b.names x.of.of)

  -- ---- what a name means

  abbrev Is : Ident → Option Meaning → Type 0
  Is name o = MeansInside exports seen around s.level h name o

  same_ok : {m n : Meaning} → ◌≡◌ {A = Result Meaning (Meaningless g.Reported)} (Ok m) (Ok n) → m ≡ n
  same_ok e = cc

  same_formal : {f k : Formal} → ◌≡◌ {A = Result Formal g.Reported} (Ok f) (Ok k) → f ≡ k
  same_formal e = cc

  abbrev local : ℕ → Section → TypeNo → Meaning
  local i x t = meaning.Local (record {
    level = s.level;
    number = i;
    kind = kind_of_formal x.is_var x.of.is_open;
    of =
        t;
  })

  formal_found : (name : Ident) (i : ℕ) (x : Section) (t : TypeNo) → IsFirstAt name.name (names_in h.formals) i
      → formal_named name.name h.formals ≡ Some x → Named x t
      → looked_up g entered name ≡ Ok (local i x t)
  formal_found name i x t f e n =
      let m = section_among name.name h.formals x e in
      let type = type_is x m in
      let first : length {A = TypeNo} [] + i ≡ i = omega arith in
      let there = sections_at name.name g s h.formals ([], [])
      (λ y k. (
        (let z = type_is y k in record { is_var = y.is_var; is_open = y.of.is_open; of = z.0 }),
        (let z = type_is y k in z.1),
      )) refl i f x e in
      let formal : there.0 ≡ record { is_var = x.is_var; is_open = x.of.is_open; of = t } =
      same_formal (sym there.1 ∙ type.1) ∙ ap
      (λ (t : TypeNo). record { is_var = x.is_var; is_open = x.of.is_open; of = t }) (sym (type.2 t n)) in
      looked_inside name
      ∙ ap (λ (o : Option (Known g.Reported)). means_as g name.pos (or_around o (known_outside name.name s.outer)))
      (there.2 ∙ ap (λ (k : ℕ). Some (entry name.name s.level k (Ok there.0))) first
      ∙ ap (λ (f : Formal). Some (entry name.name s.level i (Ok f))) formal)
      ∙ ap (λ (k : LocalKind). Ok (meaning.Local (record { level = s.level; number = i; kind = k; of = t })))
      (kind_is (record { is_var = x.is_var; is_open = x.of.is_open; of = t }))

  outer_found : (name : Ident) → formal_named name.name h.formals ≡ None → looked_up g entered name ≡ looked_up g s name
  outer_found name e = looked_inside name
      ∙ ap (λ (o : Option (Known g.Reported)). means_as g name.pos (or_around o (known_outside name.name s.outer)))
      (sections_leave name.name g s h.formals ([], []) e)
      ∙ sym (looked_before name)

  known_by : (name : Ident) (o : Option Meaning) → Is name o → (m : Meaning) → looked_up g entered name ≡ Ok m
      → (level : ℕ) → named level o ≡ named_by level m
  known_by name _ (a_formal {i = i} {x = x} {t = t} f e n) m w =
      λ l. ap (λ (m : Meaning). named_by l m) (same_ok (sym (formal_found name i x t f e n) ∙ w))
  known_by name _ (no_formal e) m w = b.means name m (sym (outer_found name e) ∙ w)

  each_by : (name : Ident) (o : Option Section) → formal_named name.name h.formals ≡ o → (r : Option Meaning)
      × Is name r
  each_by name None e = (around name, no_formal e)
  each_by name (Some x) e =
      let p = formal_place name.name h.formals e in
      let n = types x (section_among name.name h.formals x e) in
      (Some _, a_formal p.1 e n.1)

  count : length entered.variables ≡ length (names_in h.formals)
  count =
      let e = sections_count g s h.formals ([], [])
      (λ y m. (
        (let z = type_is y m in record { is_var = y.is_var; is_open = y.of.is_open; of = z.0 }),
        (let z = type_is y m in z.1),
      )) in
      omega (arith, e)

  inside : AreSensedInside g exports seen around s.level h entered
  inside = record {
    each = λ name. each_by name (formal_named name.name h.formals) refl;
    known = known_by;
    counted =
        count;
  }

pub insides_known : (g : Gathers) (j : Judges g) → Lawful g j → InsidesAreKnown g j
insides_known g j lawful exports seen around s b h types = inside g j lawful exports seen around s b h types
