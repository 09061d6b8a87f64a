-- The laws of the parts of a module.
use Rattle.std.proofs.Common.{◌≡◌, ℕ, zero, suc, ◌+◌, ◌^◌, ◌<◌, true, cond, ltb, List, [], ◌∷◌, ◌++◌, length, Ok, Err, refl, sym, ap, subst, ◌∙◌, append_assoc, arith, inl, inr}
use Rattle.std.specs.List.{flat_map}
use Rattle.std.proofs.lemmas.Bool.{lt-ltb, ltb-true, and_parts, and_from}
use Rattle.std.proofs.lemmas.List.Sums.{sum_by-cons}
use Rattle.wasm_tree.specs.declared.fault.WFault.TheVariants.{Malformed}
use Rattle.wasm_tree.specs.declared.kinds.ValueType.{ValueType}
use Rattle.wasm_tree.specs.declared.module.ImportKind.{ImportKind}
use Rattle.wasm_tree.specs.declared.module.ImportKind.TheVariants as imported
use Rattle.wasm_tree.specs.declared.module.Locals.{Locals}
use Rattle.wasm_tree.specs.declared.module.ExportKind.{ExportKind}
use Rattle.wasm_tree.specs.declared.module.ExportKind.TheVariants as exported
use Rattle.wasm_tree.specs.Format.{◌>>=◌}
use Rattle.wasm_code.specs.Number.{unsigned}
use Rattle.wasm_code.specs.Parts.{◌◂◌, ◌·◌, as_value, vector, with_size, bytes_left, name}
use Rattle.wasm_code.specs.Instructions.{value_type, code}
use Rattle.wasm_binary.specs.Binary.{table_type, memory_type, import_kind, import, global, export_kind, export, element_segment, locals_at, locals_encoding, local_count, locals, body, data_segment}
use Rattle.wasm_code.proofs.Laws.{IsBytes, IsBytes-tail, bind_ok, guard_ok, read_is, Taken, Law, whole}
use Rattle.wasm_code.proofs.LawsTagged.{if_tag, bind_behind, tagged, value_type_law, value_type_fits}
use Rattle.wasm_binary.proofs.LawsKinds.{table_type_law, memory_type_law}
use Rattle.wasm_code.proofs.LawsCode.{code_law}
use Rattle.wasm_code.proofs.LawsNumber.{unsigned_law}
use Rattle.wasm_code.proofs.LawsParts.{name_law, behind_law, then_law, seen_law, vector_law, sized_law, bytes_left_law}

-- ---- the parts of a module

import_kind_takes : (bytes : List ℕ) (x : ImportKind) (rest : List ℕ) → IsBytes bytes
    → import_kind.reading bytes ≡ Ok (x, rest) → Taken import_kind bytes x rest
unfolding import_kind
import_kind_takes [] x rest fits e = absurd cc
import_kind_takes (b ∷ bytes) x rest fits e =
    let tail = IsBytes-tail b bytes fits in
    elim (if_tag b 0x00 _ _ (Ok (x, rest)) e) [
      | inl t ↦ tagged import_kind unsigned imported.Function 0x00 unsigned_law (λ n. refl) (λ n. refl) b bytes x rest
          tail t.0 t.1
      | inr e1 ↦
          elim (if_tag b 0x01 _ _ (Ok (x, rest)) e1) [
            | inl t ↦ tagged import_kind table_type imported.Table 0x01 table_type_law (λ n. refl) (λ n. refl) b bytes x
                rest tail t.0 t.1
            | inr e2 ↦
                elim (if_tag b 0x02 _ _ (Ok (x, rest)) e2) [
                  | inl t ↦ tagged import_kind memory_type imported.Memory 0x02 memory_type_law (λ n. refl) (λ n. refl)
                      b bytes x rest tail t.0 t.1
                  | inr e3 ↦
                      elim (if_tag b 0x03 _ _ (Ok (x, rest)) e3) [
                        | inl t ↦ tagged import_kind (value_type ◂ 0x00) imported.Global 0x03
                            (behind_law 0x00 value_type value_type_law) (λ n. refl) (λ n. sym (value_type_fits n)) b
                            bytes x rest tail t.0 (bind_behind value_type imported.Global 0x00 bytes (x, rest) t.1)
                        | inr e4 ↦ absurd cc
                      ]
                ]
          ]
    ]

import_kind_again : (x : ImportKind) (rest : List ℕ) → import_kind.fits x ≡ true
    → import_kind.reading (import_kind.encoding x ++ rest) ≡ Ok (x, rest)
unfolding import_kind
import_kind_again (imported.Function t) rest fits = rw (unsigned_law.again t rest fits) refl
import_kind_again (imported.Table t) rest fits = rw (table_type_law.again t rest fits) refl
import_kind_again (imported.Memory t) rest fits = rw (memory_type_law.again t rest fits) refl
import_kind_again (imported.Global t) rest fits =
    rw (append_assoc (value_type.encoding t) (0x00 ∷ []) rest, value_type_law.again t (0x00 ∷ rest) (value_type_fits t))
    refl

pub import_kind_law : Law import_kind
import_kind_law = record { takes = import_kind_takes; again = import_kind_again }

pub import_law : Law import
unfolding import
import_law =
    seen_law (λ p. record { module_name = p.0; name = p.1.0; kind = p.1.1 }) (λ i. (i.module_name, (i.name, i.kind)))
    (name · (name · import_kind))
    (then_law name (name · import_kind) name_law (then_law name import_kind name_law import_kind_law)) (λ y. refl)
    (λ x. refl)

pub global_law : Law global
unfolding global
global_law =
    seen_law (λ p. record { value_type = p.0; value = p.1 }) (λ g. (g.value_type, g.value)) ((value_type ◂ 0x00) · code)
    (then_law (value_type ◂ 0x00) code (behind_law 0x00 value_type value_type_law) code_law) (λ y. refl) (λ x. refl)

export_kind_takes : (bytes : List ℕ) (x : ExportKind) (rest : List ℕ) → IsBytes bytes
    → export_kind.reading bytes ≡ Ok (x, rest) → Taken export_kind bytes x rest
unfolding export_kind
export_kind_takes [] x rest fits e = absurd cc
export_kind_takes (b ∷ bytes) x rest fits e =
    let tail = IsBytes-tail b bytes fits in
    elim (if_tag b 0x00 _ _ (Ok (x, rest)) e) [
      | inl t ↦ tagged export_kind unsigned exported.Function 0x00 unsigned_law (λ n. refl) (λ n. refl) b bytes x rest
          tail t.0 t.1
      | inr e1 ↦
          elim (if_tag b 0x01 _ _ (Ok (x, rest)) e1) [
            | inl t ↦ tagged export_kind unsigned exported.Table 0x01 unsigned_law (λ n. refl) (λ n. refl) b bytes x
                rest tail t.0 t.1
            | inr e2 ↦
                elim (if_tag b 0x02 _ _ (Ok (x, rest)) e2) [
                  | inl t ↦ tagged export_kind unsigned exported.Memory 0x02 unsigned_law (λ n. refl) (λ n. refl) b
                      bytes x rest tail t.0 t.1
                  | inr e3 ↦
                      elim (if_tag b 0x03 _ _ (Ok (x, rest)) e3) [
                        | inl t ↦ tagged export_kind unsigned exported.Global 0x03 unsigned_law (λ n. refl) (λ n. refl)
                            b bytes x rest tail t.0 t.1
                        | inr e4 ↦ absurd cc
                      ]
                ]
          ]
    ]

export_kind_again : (x : ExportKind) (rest : List ℕ) → export_kind.fits x ≡ true
    → export_kind.reading (export_kind.encoding x ++ rest) ≡ Ok (x, rest)
unfolding export_kind
export_kind_again (exported.Function i) rest fits = rw (unsigned_law.again i rest fits) refl
export_kind_again (exported.Table i) rest fits = rw (unsigned_law.again i rest fits) refl
export_kind_again (exported.Memory i) rest fits = rw (unsigned_law.again i rest fits) refl
export_kind_again (exported.Global i) rest fits = rw (unsigned_law.again i rest fits) refl

pub export_kind_law : Law export_kind
export_kind_law = record { takes = export_kind_takes; again = export_kind_again }

pub export_law : Law export
unfolding export
export_law = seen_law (λ p. record { name = p.0; kind = p.1 }) (λ e. (e.name, e.kind)) (name · export_kind)
    (then_law name export_kind name_law export_kind_law) (λ y. refl) (λ x. refl)

pub element_law : Law element_segment
unfolding element_segment
element_law =
    seen_law (λ p. record { table = p.0; offset = p.1.0; functions = p.1.1 }) (λ e. (e.table, (e.offset, e.functions)))
    (unsigned · (code · vector unsigned))
    (then_law unsigned (code · vector unsigned) unsigned_law
    (then_law code (vector unsigned) code_law (vector_law unsigned unsigned_law))) (λ y. refl) (λ x. refl)

pub data_segment_law : Law data_segment
unfolding data_segment
data_segment_law =
    seen_law (λ p. record { memory = p.0; offset = p.1.0; bytes = p.1.1 }) (λ d. (d.memory, (d.offset, d.bytes)))
    (unsigned · (code · with_size bytes_left))
    (then_law unsigned (code · with_size bytes_left) unsigned_law
    (then_law code (with_size bytes_left) code_law (sized_law bytes_left bytes_left_law))) (λ y. refl) (λ x. refl)

-- ---- locals

record LocalsTaken (count before : ℕ) (bytes : List ℕ) (ls : List Locals) (rest : List ℕ) : Type 0 where
  parts : bytes ≡ flat_map locals_encoding ls ++ rest
  rest_fits : IsBytes rest
  len : length ls ≡ count
  room : before + local_count ls < 2 ^ 32

locals_taken_at : (count before : ℕ) (bytes : List ℕ) (x y : List Locals) (b c : List ℕ) → (x ≡ y) × (b ≡ c)
    → LocalsTaken count before bytes x b → LocalsTaken count before bytes y c
locals_taken_at count before bytes x y b c is t =
    subst (λ z. LocalsTaken count before bytes z c) is.0 (subst (λ r. LocalsTaken count before bytes x r) is.1 t)

declared-cons : (l : Locals) (ls : List Locals) → local_count (l ∷ ls) ≡ l.count + local_count ls
declared-cons l ls = sum_by-cons (λ l. l.count) l ls

declared-none : local_count [] ≡ 0
declared-none = refl

abbrev pair_of : ℕ → ValueType → Locals
pair_of n t = record { count = n; value_type = t }

locals_put : (count before n : ℕ) (t : ValueType) (ls : List Locals) (bytes mid after rest : List ℕ)
    → Taken unsigned bytes n mid → Taken value_type mid t after → LocalsTaken count (before + n) after ls rest
    → LocalsTaken (suc count) before bytes (pair_of n t ∷ ls) rest
locals_put count before n t ls bytes mid after rest a b c =
    let one : mid ≡ (value_type.encoding t ++ flat_map locals_encoding ls) ++ rest = b.parts
    ∙ ap (λ (r : List ℕ). value_type.encoding t ++ r) c.parts
    ∙ sym (append_assoc (value_type.encoding t) (flat_map locals_encoding ls) rest) in
    let two : bytes ≡ ((unsigned.encoding n ++ value_type.encoding t) ++ flat_map locals_encoding ls) ++ rest =
    a.parts ∙ ap (λ (r : List ℕ). unsigned.encoding n ++ r) one ∙ simp append_assoc in
    record {
      parts = two;
      rest_fits = c.rest_fits;
      len = ap suc c.len;
      room =
          omega (arith, c.room, declared-cons (pair_of n t) ls);
    }

locals_at_takes : (count before : ℕ) (bytes : List ℕ) (ls : List Locals) (rest : List ℕ) → IsBytes bytes
    → before < 2 ^ 32 → locals_at count before bytes ≡ Ok (ls, rest) → LocalsTaken count before bytes ls rest
unfolding locals_at
locals_at_takes zero before bytes ls rest fits room e =
    locals_taken_at 0 before bytes [] ls bytes rest (read_is [] ls bytes rest e)
    (record { parts = refl; rest_fits = fits; len = refl; room = omega (arith, declared-none) })
locals_at_takes (suc count) before bytes ls rest fits room e =
    let a = bind_ok (unsigned.reading bytes)
    (λ n. cond (ltb (before + n.0) (2 ^ 32))
    (value_type.reading n.1 >>= λ t. locals_at count (before + n.0) t.1 >>= λ ls. Ok (pair_of n.0 t.0 ∷ ls.0, ls.1))
    (Err Malformed)) (ls, rest) e in
    let g = guard_ok (ltb (before + a.0.0) (2 ^ 32)) Malformed
    (value_type.reading a.0.1 >>= λ t. locals_at count (before + a.0.0) t.1 >>=
    λ ls. Ok (pair_of a.0.0 t.0 ∷ ls.0, ls.1)) (ls, rest) a.2 in
    let b = bind_ok (value_type.reading a.0.1)
    (λ t. locals_at count (before + a.0.0) t.1 >>= λ ls. Ok (pair_of a.0.0 t.0 ∷ ls.0, ls.1)) (ls, rest) g.1 in
    let c = bind_ok (locals_at count (before + a.0.0) b.0.1) (λ ls. Ok (pair_of a.0.0 b.0.0 ∷ ls.0, ls.1)) (ls, rest)
    b.2 in
    let t = unsigned_law.takes bytes a.0.0 a.0.1 fits a.1 in
    let u = value_type_law.takes a.0.1 b.0.0 b.0.1 t.rest_fits b.1 in
    let more : before + a.0.0 < 2 ^ 32 = ltb-true _ _ g.0 in
    let v = locals_at_takes count (before + a.0.0) b.0.1 c.0.0 c.0.1 u.rest_fits more c.1 in
    locals_taken_at (suc count) before bytes (pair_of a.0.0 b.0.0 ∷ c.0.0) ls c.0.1 rest
    (read_is (pair_of a.0.0 b.0.0 ∷ c.0.0) ls c.0.1 rest c.2)
    (locals_put count before a.0.0 b.0.0 c.0.0 bytes a.0.1 b.0.1 c.0.1 t u v)

locals_regroup : (one two text rest : List ℕ) → ((one ++ two) ++ text) ++ rest ≡ one ++ (two ++ (text ++ rest))
locals_regroup one two text rest = simp append_assoc

locals_at_again : (before : ℕ) (ls : List Locals) (rest : List ℕ) → before + local_count ls < 2 ^ 32
    → locals_at (length ls) before (flat_map locals_encoding ls ++ rest) ≡ Ok (ls, rest)
unfolding locals_at
locals_at_again before [] rest room = refl
locals_at_again before (l ∷ ls) rest room =
    let sum : local_count (l ∷ ls) ≡ l.count + local_count ls = declared-cons l ls in
    let one : l.count < 2 ^ 32 = omega (arith, sum) in
    let two : before + l.count < 2 ^ 32 = omega (arith, sum) in
    let three : (before + l.count) + local_count ls < 2 ^ 32 = omega (arith, sum) in
    rw (
      locals_regroup (unsigned.encoding l.count) (value_type.encoding l.value_type) (flat_map locals_encoding ls) rest,
      unsigned_law.again l.count (value_type.encoding l.value_type ++ (flat_map locals_encoding ls ++ rest))
          (lt-ltb l.count (2 ^ 32) one),
      lt-ltb (before + l.count) (2 ^ 32) two,
      value_type_law.again l.value_type (flat_map locals_encoding ls ++ rest) (value_type_fits l.value_type),
      locals_at_again (before + l.count) ls rest three,
    )
    refl

locals_takes : (bytes : List ℕ) (ls : List Locals) (rest : List ℕ) → IsBytes bytes
    → locals.reading bytes ≡ Ok (ls, rest) → Taken locals bytes ls rest
unfolding locals
locals_takes bytes ls rest fits e =
    let a = bind_ok (unsigned.reading bytes) (λ n. locals_at n.0 0 n.1) (ls, rest) e in
    let t = unsigned_law.takes bytes a.0.0 a.0.1 fits a.1 in
    let u = locals_at_takes a.0.0 0 a.0.1 ls rest t.rest_fits (omega arith) a.2 in
    let parts : bytes ≡ (unsigned.encoding a.0.0 ++ flat_map locals_encoding ls) ++ rest = t.parts
    ∙ ap (λ (r : List ℕ). unsigned.encoding a.0.0 ++ r) u.parts
    ∙ sym (append_assoc (unsigned.encoding a.0.0) (flat_map locals_encoding ls) rest) in
    record {
      parts = parts ∙ ap (λ (n : ℕ). (unsigned.encoding n ++ flat_map locals_encoding ls) ++ rest) (sym u.len);
      rest_fits = u.rest_fits;
      fits = and_from _ _ (ap unsigned.fits u.len ∙ t.fits) (lt-ltb (local_count ls) (2 ^ 32) (omega (arith, u.room)));
    }

locals_again : (ls : List Locals) (rest : List ℕ) → locals.fits ls ≡ true
    → locals.reading (locals.encoding ls ++ rest) ≡ Ok (ls, rest)
unfolding locals
locals_again ls rest fits =
    let f = and_parts (ltb (length ls) (2 ^ 32)) (ltb (local_count ls) (2 ^ 32)) fits in
    let room : local_count ls < 2 ^ 32 = ltb-true (local_count ls) (2 ^ 32) f.1 in
    rw (
      append_assoc (unsigned.encoding (length ls)) (flat_map locals_encoding ls) rest,
      unsigned_law.again (length ls)
          (flat_map locals_encoding ls ++ rest) f.0,
    ) (locals_at_again 0 ls rest (omega arith))

pub locals_law : Law locals
locals_law = record { takes = locals_takes; again = locals_again }

pub body_law : Law body
unfolding body
body_law =
    sized_law (as_value (λ p. record { locals = p.0; code = p.1 }) (λ b. (b.locals, b.code)) (locals · code))
    (whole (as_value (λ p. record { locals = p.0; code = p.1 }) (λ b. (b.locals, b.code)) (locals · code))
    (seen_law (λ p. record { locals = p.0; code = p.1 }) (λ b. (b.locals, b.code)) (locals · code)
    (then_law locals code locals_law code_law) (λ y. refl) (λ x. refl)))
