-- The laws of a whole module.
use Rattle.std.proofs.Common.{◌≡◌, ℕ, ◌^◌, ◌<◌, Bool, true, cond, ltb, eqb, ◌&&◌, ◌↔◌, ◌⊎◌, List, [], ◌∷◌, ◌++◌, length, Result, Ok, Err, IfOk, OnOk, MatchResult, inl, inr, refl, sym, ap, subst, ◌∙◌, append_assoc, arith}
use Rattle.std.specs.Global.{Vec}
use Rattle.std.specs.List.{flat_map, list_all}
use Rattle.std.proofs.lemmas.Bool.{eqb-true, eq-eqb, and_parts, and_from}
use Rattle.std.proofs.lemmas.List.{append-nil, length-map}
use Rattle.wasm_tree.specs.declared.fault.WFault.{WFault}
use Rattle.wasm_tree.specs.declared.fault.WFault.TheVariants.{Malformed, OutsideProfile, Invalid, Unlinked, SegmentOutside, NoMemory}
use Rattle.wasm_tree.specs.declared.module.Body.{Body}
use Rattle.wasm_tree.specs.declared.module.Function.{Function}
use Rattle.wasm_tree.specs.declared.module.Data.{Data}
use Rattle.wasm_tree.specs.declared.module.WModule.{WModule}
use Rattle.wasm_tree.specs.Format.{Format, Reading, ◌>>=◌, Gives, skip}
use Rattle.wasm_code.specs.Number.{groups, unsigned}
use Rattle.wasm_code.specs.Parts.{with_size, section}
use Rattle.wasm_binary.specs.Binary.{func_type, import, table_type, memory_type, global, export, element_segment, body, data_segment, header, skip_all, bodies, code_entries, code_content, code_section, at_end, module_at, body_encoding, bodies_encoding, code_encoding, types_of, first_sections, middle_sections, last_sections, module_encoding, module_fits, binary, Encodes, IsOnlyEncoding}
use Rattle.wasm_code.proofs.Laws.{IsBytes, IsBytes-tail, IsBytes-after, bind_ok, guard_ok, ok_is, read_is, Taken, Law, WholeLaw}
use Rattle.wasm_code.proofs.LawsNumber.{unsigned_law}
use Rattle.wasm_code.proofs.LawsParts.{skip_ok, skip_same, sized_takes, sized_inner, sized_again, Past, Past-section, Past-less, section_law}
use Rattle.wasm_binary.proofs.LawsKinds.{func_type_law, table_type_law, memory_type_law}
use Rattle.wasm_binary.proofs.LawsBinary.{import_law, global_law, export_law, element_law, body_law, data_segment_law}

-- ---- the header

skip_all_ok : (expected bytes rest : List ℕ) → skip_all expected bytes ≡ Ok rest → bytes ≡ expected ++ rest
unfolding skip_all
skip_all_ok [] bytes rest e = ok_is bytes rest e
skip_all_ok (b ∷ expected) bytes rest e =
    let a = bind_ok (skip b bytes) (λ s. skip_all expected s.1) rest e in
    skip_ok b bytes a.0 a.1 ∙ ap (λ (r : List ℕ). b ∷ r) (skip_all_ok expected a.0.1 rest a.2)

skip_all_same : (expected rest : List ℕ) → skip_all expected (expected ++ rest) ≡ Ok rest
unfolding skip_all
skip_all_same [] rest = refl
skip_all_same (b ∷ expected) rest = rw (skip_same b (expected ++ rest)) (skip_all_same expected rest)

-- ---- the code section

abbrev bodies_fit : List Function → Bool
bodies_fit fs = list_all (λ f. body.fits f.body) fs

-- what the code section holds, for functions of these types
abbrev code_format : List ℕ → Format (List Function)
code_format types = record { encoding = bodies_encoding; reading = code_entries types; fits = bodies_fit }

record BodiesTaken (bytes : List ℕ) (fs : List Function) (rest : List ℕ) : Type 0 where
  parts : bytes ≡ flat_map body_encoding fs ++ rest
  rest_fits : IsBytes rest
  fits : bodies_fit fs ≡ true

bodies_taken_at : (bytes : List ℕ) (x y : List Function) (b c : List ℕ) → (x ≡ y) × (b ≡ c) → BodiesTaken bytes x b
    → BodiesTaken bytes y c
bodies_taken_at bytes x y b c is t = subst (λ z. BodiesTaken bytes z c) is.0 (subst (λ r. BodiesTaken bytes x r) is.1 t)

abbrev function : ℕ → Body → Function
function t b = record { type_index = t; body = b }

bodies_take : (types bytes : List ℕ) (fs : List Function) (rest : List ℕ) → IsBytes bytes
    → bodies types bytes ≡ Ok (fs, rest) → BodiesTaken bytes fs rest
unfolding bodies
bodies_take [] bytes fs rest fits e = bodies_taken_at bytes [] fs bytes rest (read_is [] fs bytes rest e)
    (record { parts = refl; rest_fits = fits; fits = refl })
bodies_take (t ∷ types) bytes fs rest fits e =
    let a = bind_ok (body.reading bytes) (λ b. bodies types b.1 >>= λ fs. Ok (function t b.0 ∷ fs.0, fs.1)) (fs, rest) e
    in
    let b = bind_ok (bodies types a.0.1) (λ fs. Ok (function t a.0.0 ∷ fs.0, fs.1)) (fs, rest) a.2 in
    let u = body_law.takes bytes a.0.0 a.0.1 fits a.1 in
    let v = bodies_take types a.0.1 b.0.0 b.0.1 u.rest_fits b.1 in
    let parts : bytes ≡ (body.encoding a.0.0 ++ flat_map body_encoding b.0.0) ++ b.0.1 = u.parts
    ∙ ap (λ (r : List ℕ). body.encoding a.0.0 ++ r) v.parts
    ∙ sym (append_assoc (body.encoding a.0.0) (flat_map body_encoding b.0.0) b.0.1) in
    bodies_taken_at bytes (function t a.0.0 ∷ b.0.0) fs b.0.1 rest
    (read_is (function t a.0.0 ∷ b.0.0) fs b.0.1 rest b.2)
    (record { parts = parts; rest_fits = v.rest_fits; fits = and_from _ _ u.fits v.fits })

bodies_types : (types bytes : List ℕ) (fs : List Function) (rest : List ℕ) → bodies types bytes ≡ Ok (fs, rest)
    → types_of fs ≡ types
unfolding bodies
bodies_types [] bytes fs rest e = ap types_of (sym (read_is [] fs bytes rest e).0)
bodies_types (t ∷ types) bytes fs rest e =
    let a = bind_ok (body.reading bytes) (λ b. bodies types b.1 >>= λ fs. Ok (function t b.0 ∷ fs.0, fs.1)) (fs, rest) e
    in
    let b = bind_ok (bodies types a.0.1) (λ fs. Ok (function t a.0.0 ∷ fs.0, fs.1)) (fs, rest) a.2 in
    let is = read_is (function t a.0.0 ∷ b.0.0) fs b.0.1 rest b.2 in
    ap types_of (sym is.0) ∙ ap (λ (ts : List ℕ). t ∷ ts) (bodies_types types a.0.1 b.0.0 b.0.1 b.1)

bodies_again : (fs : List Function) (rest : List ℕ) → bodies_fit fs ≡ true
    → bodies (types_of fs) (flat_map body_encoding fs ++ rest) ≡ Ok (fs, rest)
unfolding bodies
bodies_again [] rest fits = refl
bodies_again (f ∷ fs) rest fits =
    let g = and_parts (body.fits f.body) (bodies_fit fs) fits in
    rw (
      append_assoc (body_encoding f) (flat_map body_encoding fs) rest,
      body_law.again f.body
          (flat_map body_encoding fs ++ rest) g.0,
      bodies_again fs rest g.1,
    ) refl

entries_types : (types bytes : List ℕ) (fs : List Function) (rest : List ℕ) → code_entries types bytes ≡ Ok (fs, rest)
    → types_of fs ≡ types
unfolding code_entries
entries_types types bytes fs rest e =
    let a = bind_ok (unsigned.reading bytes) (λ n. cond (eqb n.0 (length types)) (bodies types n.1) (Err Malformed))
    (fs, rest) e in
    let g = guard_ok (eqb a.0.0 (length types)) Malformed (bodies types a.0.1) (fs, rest) a.2 in
    bodies_types types a.0.1 fs rest g.1

entries_take : (types bytes : List ℕ) (fs : List Function) (rest : List ℕ) → IsBytes bytes
    → code_entries types bytes ≡ Ok (fs, rest) → Taken (code_format types) bytes fs rest
unfolding code_entries
entries_take types bytes fs rest fits e =
    let a = bind_ok (unsigned.reading bytes) (λ n. cond (eqb n.0 (length types)) (bodies types n.1) (Err Malformed))
    (fs, rest) e in
    let g = guard_ok (eqb a.0.0 (length types)) Malformed (bodies types a.0.1) (fs, rest) a.2 in
    let t = unsigned_law.takes bytes a.0.0 a.0.1 fits a.1 in
    let u = bodies_take types a.0.1 fs rest t.rest_fits g.1 in
    let len : a.0.0 ≡ length fs = eqb-true a.0.0 (length types) g.0
    ∙ ap length (sym (bodies_types types a.0.1 fs rest g.1)) ∙ length-map fs (λ f. f.type_index) in
    let parts : bytes ≡ (unsigned.encoding a.0.0 ++ flat_map body_encoding fs) ++ rest = t.parts
    ∙ ap (λ (r : List ℕ). unsigned.encoding a.0.0 ++ r) u.parts
    ∙ sym (append_assoc (unsigned.encoding a.0.0) (flat_map body_encoding fs) rest) in
    record {
      parts = parts ∙ ap (λ (n : ℕ). (unsigned.encoding n ++ flat_map body_encoding fs) ++ rest) len;
      rest_fits =
          u.rest_fits;
      fits = u.fits;
    }

entries_again : (fs : List Function) → bodies_fit fs ≡ true → ltb (length (types_of fs)) (2 ^ 32) ≡ true
    → code_entries (types_of fs) (bodies_encoding fs) ≡ Ok (fs, [])
unfolding code_entries
entries_again fs fits few =
    let len : length (types_of fs) ≡ length fs = length-map fs (λ f. f.type_index) in
    let all : bodies (types_of fs) (flat_map body_encoding fs) ≡ Ok (fs, []) =
    ap (bodies (types_of fs)) (sym (append-nil (flat_map body_encoding fs))) ∙ bodies_again fs [] fits in
    rw (
      unsigned_law.again (length fs) (flat_map body_encoding fs) (sym (ap unsigned.fits len) ∙ few),
      eq-eqb
          (length fs) (length (types_of fs)) (sym len),
    ) all

-- what was read of the code section
record CodeTaken (types bytes : List ℕ) (fs : List Function) (rest : List ℕ) : Type 0 where
  parts : bytes ≡ code_encoding fs ++ rest
  rest_fits : IsBytes rest
  types_are : types_of fs ≡ types
  fits : bodies_fit fs ≡ true
  room : ltb (length (bodies_encoding fs)) (2 ^ 32) ≡ true

code_taken_at : (types bytes : List ℕ) (x y : List Function) (b c : List ℕ) → (x ≡ y) × (b ≡ c)
    → CodeTaken types bytes x b → CodeTaken types bytes y c
code_taken_at types bytes x y b c is t =
    subst (λ z. CodeTaken types bytes z c) is.0 (subst (λ r. CodeTaken types bytes x r) is.1 t)

none_room : ltb (length (bodies_encoding [])) (2 ^ 32) ≡ true
unfolding groups
none_room = refl

code_some : (t : ℕ) (types bytes : List ℕ) (fs : List Function) (rest : List ℕ) → types_of fs ≡ t ∷ types
    → Taken (with_size (code_format (t ∷ types))) bytes fs rest → CodeTaken (t ∷ types) (10 ∷ bytes) fs rest
code_some t types bytes [] rest is u = absurd cc
code_some t types bytes (f ∷ fs) rest is u =
    let g = and_parts (bodies_fit (f ∷ fs)) (ltb (length (bodies_encoding (f ∷ fs))) (2 ^ 32)) u.fits in
    record {
      parts = ap (λ (r : List ℕ). 10 ∷ r) u.parts;
      rest_fits = u.rest_fits;
      types_are = is;
      fits = g.0;
      room =
          g.1;
    }

code_section_takes : (types bytes : List ℕ) (fs : List Function) (rest : List ℕ) → IsBytes bytes
    → code_section types bytes ≡ Ok (fs, rest) → CodeTaken types bytes fs rest
unfolding code_content
code_section_takes [] bytes fs rest fits e =
    code_taken_at [] bytes [] fs bytes rest (read_is [] fs bytes rest e)
    (record { parts = refl; rest_fits = fits; types_are = refl; fits = refl; room = none_room })
code_section_takes (t ∷ types) [] fs rest fits e = absurd cc
code_section_takes (t ∷ types) (b ∷ bytes) fs rest fits e =
    let g = guard_ok (eqb b 10) OutsideProfile (code_content (t ∷ types) bytes) (fs, rest) e in
    let inner = sized_inner (code_format (t ∷ types)) bytes fs rest g.1 in
    let is = entries_types (t ∷ types) inner.0 fs inner.1 inner.2 in
    let u = sized_takes (code_format (t ∷ types)) (entries_take (t ∷ types)) bytes fs rest (IsBytes-tail b bytes fits)
    g.1 in
    subst (λ (c : ℕ). CodeTaken (t ∷ types) (c ∷ bytes) fs rest) (sym (eqb-true b 10 g.0))
    (code_some t types bytes fs rest is u)

code_section_again : (fs : List Function) (rest : List ℕ) → bodies_fit fs ≡ true
    → ltb (length (types_of fs)) (2 ^ 32) ≡ true → ltb (length (bodies_encoding fs)) (2 ^ 32) ≡ true
    → code_section (types_of fs) (code_encoding fs ++ rest) ≡ Ok (fs, rest)
unfolding code_content
code_section_again [] rest fits few room = refl
code_section_again (f ∷ fs) rest fits few room =
    sized_again (code_format (types_of (f ∷ fs))) (f ∷ fs) rest (entries_again (f ∷ fs) fits few) room

Past-code : (before : ℕ) (fs : List Function) (rest : List ℕ) → before < 10 → Past before rest
    → Past before (code_encoding fs ++ rest)
Past-code before [] rest lt past = past
Past-code before (f ∷ fs) rest lt past = lt

few_types : (fs : List Function) → (section 3 unsigned).fits (types_of fs) ≡ true
    → ltb (length (types_of fs)) (2 ^ 32) ≡ true
few_types [] fits = refl
few_types (f ∷ fs) fits =
    let all : Bool = ltb (length (types_of (f ∷ fs))) (2 ^ 32) && list_all unsigned.fits (types_of (f ∷ fs)) in
    let content = and_parts (ltb 0 (length (types_of (f ∷ fs))) && all) _ fits in
    let inner = and_parts (ltb 0 (length (types_of (f ∷ fs)))) all content.0 in
    (and_parts (ltb (length (types_of (f ∷ fs))) (2 ^ 32)) (list_all unsigned.fits (types_of (f ∷ fs))) inner.1).0

at_end_ok : (bytes : List ℕ) (u : Unit {0}) → at_end bytes ≡ Ok u → bytes ≡ []
at_end_ok [] u e = refl
at_end_ok (b ∷ bytes) u e = absurd cc

-- ---- a module

-- what was read one after the other
record Steps (bytes : List ℕ) (m : WModule) (rest : List ℕ) : Type 0 where
  start : List ℕ
  r1 : List ℕ
  r2 : List ℕ
  uses : List ℕ
  r3 : List ℕ
  r4 : List ℕ
  r5 : List ℕ
  r6 : List ℕ
  r7 : List ℕ
  r9 : List ℕ
  r10 : List ℕ
  r11 : List ℕ
  begins : skip_all header bytes ≡ Ok start
  types : (section 1 func_type).reading start ≡ Ok (m.types, r1)
  imports : (section 2 import).reading r1 ≡ Ok (m.imports, r2)
  using : (section 3 unsigned).reading r2 ≡ Ok (uses, r3)
  tables : (section 4 table_type).reading r3 ≡ Ok (m.tables, r4)
  memories : (section 5 memory_type).reading r4 ≡ Ok (m.memories, r5)
  globals : (section 6 global).reading r5 ≡ Ok (m.globals, r6)
  exports : (section 7 export).reading r6 ≡ Ok (m.exports, r7)
  elements : (section 9 element_segment).reading r7 ≡ Ok (m.elements, r9)
  functions : code_section uses r9 ≡ Ok (m.functions, r10)
  segments : (section 11 data_segment).reading r10 ≡ Ok (m.«data», r11)
  ends : at_end r11 ≡ Ok tt
  none : rest ≡ []

bind_into : {A B : Type 0} (r : Result A WFault) (f : A → Result B WFault) (y : B) (P : Type 0) → (r >>= f) ≡ Ok y
    → ((x : A) → r ≡ Ok x → f x ≡ Ok y → P) → P
bind_into (Ok x) f y P e k = k x refl e
bind_into (Err d) f y P e k = absurd cc

steps : (bytes : List ℕ) (m : WModule) (rest : List ℕ) → module_at bytes ≡ Ok (m, rest) → Steps bytes m rest
unfolding module_at
steps bytes m rest e =
    bind_into (skip_all header bytes) _ (m, rest) (Steps bytes m rest) e (λ start begins e0.
    bind_into ((section 1 func_type).reading start) _ (m, rest) (Steps bytes m rest) e0 (λ types is1 e1.
    bind_into ((section 2 import).reading types.1) _ (m, rest) (Steps bytes m rest) e1 (λ imports is2 e2.
    bind_into ((section 3 unsigned).reading imports.1) _ (m, rest) (Steps bytes m rest) e2 (λ uses is3 e3.
    bind_into ((section 4 table_type).reading uses.1) _ (m, rest) (Steps bytes m rest) e3 (λ tables is4 e4.
    bind_into ((section 5 memory_type).reading tables.1) _ (m, rest) (Steps bytes m rest) e4 (λ memories is5 e5.
    bind_into ((section 6 global).reading memories.1) _ (m, rest) (Steps bytes m rest) e5 (λ globals is6 e6.
    bind_into ((section 7 export).reading globals.1) _ (m, rest) (Steps bytes m rest) e6 (λ exports is7 e7.
    bind_into ((section 9 element_segment).reading exports.1) _ (m, rest) (Steps bytes m rest) e7 (λ elements is9 e9.
    bind_into (code_section uses.0 elements.1) _ (m, rest) (Steps bytes m rest) e9 (λ functions is10 e10.
    bind_into ((section 11 data_segment).reading functions.1) _ (m, rest) (Steps bytes m rest) e10 (λ segments is11 e11.
    bind_into (at_end segments.1) _ (m, rest) (Steps bytes m rest) e11 (λ end is12 e12.
    let made : WModule = record {
      types = types.0;
      imports = imports.0;
      functions = functions.0;
      tables =
          tables.0;
      memories = memories.0;
      globals = globals.0;
      exports = exports.0;
      elements = elements.0;
      «data» =
          segments.0;
    } in
    let is = read_is made m [] rest e12 in
    subst (λ (x : WModule). Steps bytes x rest) is.0 (record {
      start = start;
      r1 = types.1;
      r2 = imports.1;
      uses = uses.0;
      r3 = uses.1;
      r4 = tables.1;
      r5 = memories.1;
      r6 = globals.1;
      r7 = exports.1;
      r9 = elements.1;
      r10 = functions.1;
      r11 = segments.1;
      begins = begins;
      types = is1;
      imports = is2;
      using = is3;
      tables = is4;
      memories = is5;
      globals = is6;
      exports = is7;
      elements = is9;
      functions = is10;
      segments = is11;
      ends = is12;
      none = sym is.1;
    })))))))))))))

-- the parts of a module one after the other, each before all those behind it
abbrev laid_out : WModule → List ℕ
laid_out m =
    header ++ ((section 1 func_type).encoding m.types
    ++ ((section 2 import).encoding m.imports ++ ((section 3 unsigned).encoding (types_of m.functions)
    ++ ((section 4 table_type).encoding m.tables
    ++ ((section 5 memory_type).encoding m.memories ++ ((section 6 global).encoding m.globals
    ++ ((section 7 export).encoding m.exports
    ++ ((section 9 element_segment).encoding m.elements ++ (code_encoding m.functions
    ++ (section 11 data_segment).encoding m.«data»)))))))))

regroup : (h a b c d e f g i j k : List ℕ)
    → (h ++ a ++ b ++ c) ++ (d ++ e ++ f ++ g) ++ (i ++ j ++ k) ≡ h
    ++ (a ++ (b ++ (c ++ (d ++ (e ++ (f ++ (g ++ (i ++ (j ++ k)))))))))
regroup h a b c d e f g i j k = simp append_assoc

encoding_is : (m : WModule) → module_encoding m ≡ laid_out m
unfolding module_encoding first_sections middle_sections last_sections
encoding_is m =
    regroup header ((section 1 func_type).encoding m.types) ((section 2 import).encoding m.imports)
    ((section 3 unsigned).encoding (types_of m.functions)) ((section 4 table_type).encoding m.tables)
    ((section 5 memory_type).encoding m.memories) ((section 6 global).encoding m.globals)
    ((section 7 export).encoding m.exports) ((section 9 element_segment).encoding m.elements)
    (code_encoding m.functions)
    ((section 11 data_segment).encoding m.«data»)

-- one part before others
joins : (bytes text mid others : List ℕ) → bytes ≡ text ++ mid → mid ≡ others → bytes ≡ text ++ others
joins bytes text mid others e f = e ∙ ap (λ (r : List ℕ). text ++ r) f

all_true : (a b c d e f g h i j k : Bool) → a ≡ true → b ≡ true → c ≡ true → d ≡ true → e ≡ true → f ≡ true → g ≡ true
    → h ≡ true → i ≡ true → j ≡ true → k ≡ true
    → (a && b && c && d && e && f && g && h && i && j && k) ≡ true
all_true a b c d e f g h i j k pa pb pc pd pe pf pg ph pi pj pk =
    and_from (a && b && c && d && e && f && g && h && i && j) k
    (and_from (a && b && c && d && e && f && g && h && i) j
    (and_from (a && b && c && d && e && f && g && h) i (and_from (a && b && c && d && e && f && g) h
    (and_from (a && b && c && d && e && f) g
    (and_from (a && b && c && d && e) f (and_from (a && b && c && d) e
    (and_from (a && b && c) d (and_from (a && b) c (and_from a b pa pb) pc) pd) pe) pf) pg) ph) pi) pj) pk

encoded : (bytes : List ℕ) (m : WModule) (rest : List ℕ) → IsBytes bytes → Steps bytes m rest → Encodes bytes m
unfolding module_fits
encoded bytes m rest fits s =
    let b0 = skip_all_ok header bytes s.start s.begins in
    let t1 = (section_law 1 func_type func_type_law).takes s.start m.types s.r1
    (IsBytes-after bytes header s.start b0 fits) s.types in
    let t2 = (section_law 2 import import_law).takes s.r1 m.imports s.r2 t1.rest_fits s.imports in
    let t3 = (section_law 3 unsigned unsigned_law).takes s.r2 s.uses s.r3 t2.rest_fits s.using in
    let t4 = (section_law 4 table_type table_type_law).takes s.r3 m.tables s.r4 t3.rest_fits s.tables in
    let t5 = (section_law 5 memory_type memory_type_law).takes s.r4 m.memories s.r5 t4.rest_fits s.memories in
    let t6 = (section_law 6 global global_law).takes s.r5 m.globals s.r6 t5.rest_fits s.globals in
    let t7 = (section_law 7 export export_law).takes s.r6 m.exports s.r7 t6.rest_fits s.exports in
    let t9 = (section_law 9 element_segment element_law).takes s.r7 m.elements s.r9 t7.rest_fits s.elements in
    let t10 = code_section_takes s.uses s.r9 m.functions s.r10 t9.rest_fits s.functions in
    let t11 = (section_law 11 data_segment data_segment_law).takes s.r10 m.«data» s.r11 t10.rest_fits s.segments in
    let types_are : s.uses ≡ types_of m.functions = sym t10.types_are in
    let nothing : s.r11 ≡ [] = at_end_ok s.r11 tt s.ends in
    let end : s.r10 ≡ (section 11 data_segment).encoding m.«data» = joins s.r10 _ s.r11 [] t11.parts nothing
    ∙ append-nil ((section 11 data_segment).encoding m.«data») in
    let p10 = joins s.r9 (code_encoding m.functions) s.r10 _ t10.parts end in
    let p9 = joins s.r7 ((section 9 element_segment).encoding m.elements) s.r9 _ t9.parts p10 in
    let p7 = joins s.r6 ((section 7 export).encoding m.exports) s.r7 _ t7.parts p9 in
    let p6 = joins s.r5 ((section 6 global).encoding m.globals) s.r6 _ t6.parts p7 in
    let p5 = joins s.r4 ((section 5 memory_type).encoding m.memories) s.r5 _ t5.parts p6 in
    let p4 = joins s.r3 ((section 4 table_type).encoding m.tables) s.r4 _ t4.parts p5 in
    let p3 = joins s.r2 ((section 3 unsigned).encoding (types_of m.functions)) s.r3 _
    (t3.parts ∙ ap (λ (ts : List ℕ). (section 3 unsigned).encoding ts ++ s.r3) types_are) p4 in
    let p2 = joins s.r1 ((section 2 import).encoding m.imports) s.r2 _ t2.parts p3 in
    let p1 = joins s.start ((section 1 func_type).encoding m.types) s.r1 _ t1.parts p2 in
    let p0 = joins bytes header s.start _ b0 p1 in
    record {
      fits = all_true _ _ _ _ _ _ _ _ _ _ _ t1.fits t2.fits (ap (section 3 unsigned).fits (sym types_are) ∙ t3.fits)
          t4.fits t5.fits t6.fits t7.fits t9.fits t10.fits t10.room t11.fits;
      encoding = p0 ∙ sym (encoding_is m);
    }

pub module_takes : (bytes : List ℕ) (m : WModule) (rest : List ℕ) → IsBytes bytes → module_at bytes ≡ Ok (m, rest)
    → Encodes bytes m × (rest ≡ [])
module_takes bytes m rest fits e = let s = steps bytes m rest e in (encoded bytes m rest fits s, s.none)

-- ---- and back

record AllTrue (a b c d e f g h i j k : Bool) : Type 0 where
  one : a ≡ true
  two : b ≡ true
  three : c ≡ true
  four : d ≡ true
  five : e ≡ true
  six : f ≡ true
  seven : g ≡ true
  nine : h ≡ true
  bodies : i ≡ true
  room : j ≡ true
  eleven : k ≡ true

each_true : (a b c d e f g h i j k : Bool) → (a && b && c && d && e && f && g && h && i && j && k) ≡ true
    → AllTrue a b c d e f g h i j k
each_true a b c d e f g h i j k all =
    let pk = and_parts (a && b && c && d && e && f && g && h && i && j) k all in
    let pj = and_parts (a && b && c && d && e && f && g && h && i) j pk.0 in
    let pi = and_parts (a && b && c && d && e && f && g && h) i pj.0 in
    let ph = and_parts (a && b && c && d && e && f && g) h pi.0 in
    let pg = and_parts (a && b && c && d && e && f) g ph.0 in
    let pf = and_parts (a && b && c && d && e) f pg.0 in
    let pe = and_parts (a && b && c && d) e pf.0 in
    let pd = and_parts (a && b && c) d pe.0 in
    let pc = and_parts (a && b) c pd.0 in
    let pb = and_parts a b pc.0 in
    record {
      one = pb.0;
      two = pb.1;
      three = pc.1;
      four = pd.1;
      five = pe.1;
      six = pf.1;
      seven = pg.1;
      nine =
          ph.1;
      bodies = pi.1;
      room = pj.1;
      eleven = pk.1;
    }

bind_is : {A B : Type 0} (r : Result A WFault) (x : A) (f : A → Result B WFault) (z : Result B WFault) → r ≡ Ok x
    → f x ≡ z → (r >>= f) ≡ z
bind_is {A} r x f z e h = ap (λ (s : Result A WFault). s >>= f) e ∙ h

-- the last section, behind which there is nothing
last_again : (xs : List Data) → (section 11 data_segment).fits xs ≡ true
    → (section 11 data_segment).reading ((section 11 data_segment).encoding xs) ≡ Ok (xs, [])
last_again xs fits = ap (section 11 data_segment).reading (sym (append-nil ((section 11 data_segment).encoding xs)))
    ∙ (section_law 11 data_segment data_segment_law).again xs [] tt fits

last_past : (before : ℕ) (xs : List Data) → before < 11 → Past before ((section 11 data_segment).encoding xs)
last_past before [] lt = tt
last_past before (x ∷ xs) lt = lt

-- what stands behind each section, given by the sections behind it
record Layout (m : WModule) (s0 s1 s2 s3 s4 s5 s6 s7 s9 s10 : List ℕ) : Type 0 where
  is0 : s0 ≡ (section 1 func_type).encoding m.types ++ s1
  is1 : s1 ≡ (section 2 import).encoding m.imports ++ s2
  is2 : s2 ≡ (section 3 unsigned).encoding (types_of m.functions) ++ s3
  is3 : s3 ≡ (section 4 table_type).encoding m.tables ++ s4
  is4 : s4 ≡ (section 5 memory_type).encoding m.memories ++ s5
  is5 : s5 ≡ (section 6 global).encoding m.globals ++ s6
  is6 : s6 ≡ (section 7 export).encoding m.exports ++ s7
  is7 : s7 ≡ (section 9 element_segment).encoding m.elements ++ s9
  is9 : s9 ≡ code_encoding m.functions ++ s10
  is10 : s10 ≡ (section 11 data_segment).encoding m.«data»

-- a section is read again, and those behind it have greater numbers
record Again {A : Type 0} (number before : ℕ) (p : Format A) (xs : List A) (now behind : List ℕ) : Type 0 where
  read : (section number p).reading now ≡ Ok (xs, behind)
  past : Past before now

again_is : {A : Type 0} (number before : ℕ) (p : Format A) (law : Law p) (xs : List A) (now behind : List ℕ)
    → before < number → (section number p).fits xs ≡ true → now ≡ (section number p).encoding xs ++ behind
    → Past number behind → Again number before p xs now behind
again_is number before p law xs now behind lt fits is past = record {
  read = ap (section number p).reading is ∙ (section_law number p law).again xs behind past fits;
  past = subst (Past before) (sym is) (Past-section before number p xs behind lt
      (Past-less before number behind lt past));
}

read_again : (m : WModule) (bytes s0 s1 s2 s3 s4 s5 s6 s7 s9 s10 : List ℕ)
    → skip_all header bytes ≡ Ok s0
    → (section 1 func_type).reading s0 ≡ Ok (m.types, s1)
    → (section 2 import).reading s1 ≡ Ok (m.imports, s2)
    → (section 3 unsigned).reading s2 ≡ Ok (types_of m.functions, s3)
    → (section 4 table_type).reading s3 ≡ Ok (m.tables, s4)
    → (section 5 memory_type).reading s4 ≡ Ok (m.memories, s5)
    → (section 6 global).reading s5 ≡ Ok (m.globals, s6)
    → (section 7 export).reading s6 ≡ Ok (m.exports, s7)
    → (section 9 element_segment).reading s7 ≡ Ok (m.elements, s9)
    → code_section (types_of m.functions) s9 ≡ Ok (m.functions, s10)
    → (section 11 data_segment).reading s10 ≡ Ok (m.«data», [])
    → module_at bytes ≡ Ok (m, [])
unfolding module_at
read_again m bytes s0 s1 s2 s3 s4 s5 s6 s7 s9 s10 e0 e1 e2 e3 e4 e5 e6 e7 e9 e10 e11 =
    bind_is (skip_all header bytes) s0 _ (Ok (m, [])) e0
    (bind_is ((section 1 func_type).reading s0) (m.types, s1) _ (Ok (m, [])) e1
    (bind_is ((section 2 import).reading s1) (m.imports, s2) _ (Ok (m, [])) e2
    (bind_is ((section 3 unsigned).reading s2) (types_of m.functions, s3) _ (Ok (m, [])) e3
    (bind_is ((section 4 table_type).reading s3) (m.tables, s4) _ (Ok (m, [])) e4
    (bind_is ((section 5 memory_type).reading s4) (m.memories, s5) _ (Ok (m, [])) e5
    (bind_is ((section 6 global).reading s5) (m.globals, s6) _ (Ok (m, [])) e6
    (bind_is ((section 7 export).reading s6) (m.exports, s7) _ (Ok (m, [])) e7
    (bind_is ((section 9 element_segment).reading s7) (m.elements, s9) _ (Ok (m, [])) e9
    (bind_is (code_section (types_of m.functions) s9) (m.functions, s10) _ (Ok (m, [])) e10
    (bind_is ((section 11 data_segment).reading s10) (m.«data», []) _ (Ok (m, [])) e11 refl))))))))))

abbrev FitsEach : WModule → Type 0
FitsEach m =
    AllTrue ((section 1 func_type).fits m.types) ((section 2 import).fits m.imports)
    ((section 3 unsigned).fits (types_of m.functions)) ((section 4 table_type).fits m.tables)
    ((section 5 memory_type).fits m.memories)
    ((section 6 global).fits m.globals) ((section 7 export).fits m.exports)
    ((section 9 element_segment).fits m.elements) (bodies_fit m.functions)
    (ltb (length (bodies_encoding m.functions)) (2 ^ 32)) ((section 11 data_segment).fits m.«data»)

fits_each : (m : WModule) → module_fits m ≡ true → FitsEach m
unfolding module_fits
fits_each m fits = each_true _ _ _ _ _ _ _ _ _ _ _ fits

layout_again : (m : WModule) (s0 s1 s2 s3 s4 s5 s6 s7 s9 s10 : List ℕ) → module_fits m ≡ true
    → Layout m s0 s1 s2 s3 s4 s5 s6 s7 s9 s10 → module_at (header ++ s0) ≡ Ok (m, [])
layout_again m s0 s1 s2 s3 s4 s5 s6 s7 s9 s10 fits l =
    let f : FitsEach m = fits_each m fits in
    let past10 : Past 9 s10 = subst (Past 9) (sym l.is10) (last_past 9 m.«data» (omega arith)) in
    let past9 : Past 9 s9 = subst (Past 9) (sym l.is9) (Past-code 9 m.functions s10 (omega arith) past10) in
    let a7 = again_is 9 7 element_segment element_law m.elements s7 s9 (omega arith) f.nine l.is7 past9 in
    let a6 = again_is 7 6 export export_law m.exports s6 s7 (omega arith) f.seven l.is6 a7.past in
    let a5 = again_is 6 5 global global_law m.globals s5 s6 (omega arith) f.six l.is5 a6.past in
    let a4 = again_is 5 4 memory_type memory_type_law m.memories s4 s5 (omega arith) f.five l.is4 a5.past in
    let a3 = again_is 4 3 table_type table_type_law m.tables s3 s4 (omega arith) f.four l.is3 a4.past in
    let a2 = again_is 3 2 unsigned unsigned_law (types_of m.functions) s2 s3 (omega arith) f.three l.is2 a3.past in
    let a1 = again_is 2 1 import import_law m.imports s1 s2 (omega arith) f.two l.is1 a2.past in
    let a0 = again_is 1 0 func_type func_type_law m.types s0 s1 (omega arith) f.one l.is0 a1.past in
    let coded : code_section (types_of m.functions) s9 ≡ Ok (m.functions, s10) =
    ap (code_section (types_of m.functions)) l.is9
    ∙ code_section_again m.functions s10 f.bodies (few_types m.functions f.three) f.room in
    let last : (section 11 data_segment).reading s10 ≡ Ok (m.«data», []) = ap (section 11 data_segment).reading l.is10
    ∙ last_again m.«data» f.eleven in
    read_again m (header ++ s0) s0 s1 s2 s3 s4 s5 s6 s7 s9 s10 (skip_all_same header s0) a0.read a1.read a2.read a3.read
    a4.read a5.read a6.read a7.read coded last

pub module_again : (m : WModule) → module_fits m ≡ true → module_at (module_encoding m) ≡ Ok (m, [])
module_again m fits =
    ap module_at (encoding_is m) ∙ layout_again m _ _ _ _ _ _ _ _ _ _ fits
    (record {
      is0 = refl;
      is1 = refl;
      is2 = refl;
      is3 = refl;
      is4 = refl;
      is5 = refl;
      is6 = refl;
      is7 = refl;
      is9 =
          refl;
      is10 = refl;
    })

pub binary_law : WholeLaw binary
binary_law = record {
  takes = λ bytes m rest fits e.
      let t = module_takes bytes m rest fits e in
      let none : rest ≡ [] = t.1 in
      record {
        parts = t.0.encoding ∙ sym (append-nil (module_encoding m))
            ∙ ap (λ (r : List ℕ). module_encoding m ++ r) (sym none);
        rest_fits = subst IsBytes (sym none) (λ i. omega arith);
        fits = t.0.fits;
      };
  again = module_again;
}

-- bytes are read as a module exactly where they encode it
pub module_read : (bytes : List ℕ) (m : WModule) → IsBytes bytes → (module_at bytes ≡ Ok (m, [])) ↔ Encodes bytes m
module_read bytes m fits = (
  λ e. (module_takes bytes m [] fits e).0,
  λ s. ap module_at s.encoding
      ∙ module_again m s.fits,
)

-- and they encode no other one
pub one_module : (bytes : List ℕ) (m n : WModule) → Encodes bytes m → Encodes bytes n → m ≡ n
one_module bytes m n s t =
    let one : module_at bytes ≡ Ok (m, []) = ap module_at s.encoding ∙ module_again m s.fits in
    let two : module_at bytes ≡ Ok (n, []) = ap module_at t.encoding ∙ module_again n t.fits in
    (read_is m n [] [] (sym one ∙ two)).0

refused_and_read : (x : WModule × List ℕ) (e : WFault) → ◌≡◌ {A = Reading WModule} (Ok x) (Err e) → ⊥
refused_and_read x e h = cc

-- bytes that are refused encode no module
pub none_encoded : (bytes : List ℕ) (e : WFault) → module_at bytes ≡ Err e → (m : WModule) → Encodes bytes m → ⊥
none_encoded bytes e refused m s =
    let read : module_at bytes ≡ Ok (m, []) = ap module_at s.encoding ∙ module_again m s.fits in
    refused_and_read (m, []) e (sym read ∙ refused)

-- what a function answered that gives this reading
pub is_encoded : (bytes : List ℕ) (r : Result WModule WFault) → IsBytes bytes → Gives (λ m. (m, [])) r (module_at bytes)
    → IfOk r (λ m. Encodes bytes m)
is_encoded bytes (Ok m) fits given = (module_takes bytes m [] fits given).0
is_encoded bytes (Err e) fits given = tt

pub is_decided : (bytes : List ℕ) (r : Result WModule WFault) → IsBytes bytes → Gives (λ m. (m, [])) r (module_at bytes)
    → MatchResult r (λ m. Encodes bytes m) (λ e. (e ≡ NoMemory) ⊎ ((m : WModule) → ¬ (Encodes bytes m)))
is_decided bytes (Ok m) fits given = (module_takes bytes m [] fits given).0
is_decided bytes (Err Malformed) fits given = inr (none_encoded bytes Malformed given)
is_decided bytes (Err OutsideProfile) fits given = inr (none_encoded bytes OutsideProfile given)
is_decided bytes (Err Invalid) fits given = inr (none_encoded bytes Invalid given)
is_decided bytes (Err Unlinked) fits given = inr (none_encoded bytes Unlinked given)
is_decided bytes (Err SegmentOutside) fits given = inr (none_encoded bytes SegmentOutside given)
is_decided bytes (Err NoMemory) fits given = inl refl

-- what is written is the only encoding
pub only_encoding : (bytes : List ℕ) (m : WModule) → bytes ≡ module_encoding m → module_fits m ≡ true
    → IsOnlyEncoding bytes m
only_encoding bytes m e fits =
    let here : Encodes bytes m = record { fits = fits; encoding = e } in
    record { encodes = here; no_others = λ others h. h.encoding ∙ sym e; no_other = λ n h. one_module bytes n m h here }

pub is_only_encoding : {E : Type 0} (m : WModule) (r : Result (Vec ℕ) E) → IfOk r (λ v. v.items ≡ module_encoding m)
    → OnOk r (module_fits m ≡ true) → IfOk r (λ v. IsOnlyEncoding v.items m)
is_only_encoding m (Ok v) h fits = only_encoding v.items m h fits
is_only_encoding m (Err e) h fits = tt
