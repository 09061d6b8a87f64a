-- The laws of code in the making: what is appended one behind the other.
use Rattle.std.proofs.Common.{◌≡◌, ℕ, List, [], ◌∷◌, ◌++◌, map, refl, sym, ap, ◌∙◌, append_assoc}
use Rattle.std.proofs.lemmas.List.{append-nil, map-append}
use Rattle.wasm_tree.specs.declared.code.Op.{Op}
use Rattle.wasm_tree.specs.declared.instr.Instr.{Instr}
use Rattle.wasm_tree.specs.Code.{flat_one, flat}
use Rattle.typed_tree.specs.declared.known_types.Types.{Types}
use Rattle.def_scheme.specs.Coded.{Coded, Counts, Setting, plain, ◌⨾◌, nothing, all_coded, with_address, with_number, with_text, with_setting, address_local, number_local}
use Rattle.def_scheme.specs.Exprs.{behind, two}
use Rattle.emit_buffer.specs.Cut.{cut_op}
use Rattle.emit_buffer.specs.Drafts.{Drafted, cut_one, cut_flat, with_ops, one, put, emitted, next_address, next_number, next_text}

-- ---- lists of instructions

pub flat_append : (a b : List Instr) → flat (a ++ b) ≡ flat a ++ flat b
flat_append [] b = refl
flat_append (i ∷ a) b = ap (λ (ops : List Op). flat_one i ++ ops) (flat_append a b)
    ∙ sym (append_assoc (flat_one i) (flat a) (flat b))

pub cut_append : (a b : List Instr) → cut_flat (a ++ b) ≡ cut_flat a ++ cut_flat b
cut_append a b = ap (map cut_op) (flat_append a b) ∙ map-append cut_op (flat a) (flat b)

pub put_is : (is : List Instr) (d : Drafted) → put is d ≡ with_ops (cut_flat is) d
unfolding one
put_is [] d = ap (λ (ops : List Op). record { ops = ops; counts = d.counts }) (sym (append-nil d.ops))
put_is (i ∷ is) d =
    put_is is (one i d)
    ∙ ap (λ (ops : List Op). record { ops = ops; counts = d.counts })
    (append_assoc d.ops (cut_one i) (cut_flat is)
    ∙ ap (λ (ops : List Op). d.ops ++ ops) (sym (map-append cut_op (flat_one i) (flat is))))

pub put_append : (a b : List Instr) (d : Drafted) → put (a ++ b) d ≡ put b (put a d)
put_append [] b d = refl
put_append (i ∷ a) b d = put_append a b (one i d)

-- ---- code

pub emitted_plain : (is : List Instr) (s : Setting) (d : Drafted) → emitted (plain is) s d ≡ put is d
unfolding emitted
emitted_plain is s d = sym (put_is is d)

pub emitted_seq : (x y : Coded) (s : Setting) (d : Drafted) → emitted (x ⨾ y) s d ≡ emitted y s (emitted x s d)
unfolding emitted
emitted_seq x y s d =
    let first : List Instr × Counts = x s d.counts in let second : List Instr × Counts = y s first.1 in
    ap (λ (ops : List Op). record { ops = d.ops ++ ops; counts = second.1 }) (cut_append first.0 second.0)
    ∙ ap (λ (ops : List Op). record { ops = ops; counts = second.1 })
    (sym (append_assoc d.ops (cut_flat first.0) (cut_flat second.0)))

pub emitted_nothing : (s : Setting) (d : Drafted) → emitted nothing s d ≡ d
emitted_nothing s d = emitted_plain [] s d

pub emitted_all : (x : Coded) (xs : List Coded) (s : Setting) (d : Drafted)
    → emitted (all_coded (x ∷ xs)) s d ≡ emitted (all_coded xs) s (emitted x s d)
emitted_all x xs s d = emitted_seq x (all_coded xs) s d

pub emitted_setting : (f : Setting → Coded) (s : Setting) (d : Drafted)
    → emitted (with_setting f) s d ≡ emitted (f s) s d
unfolding emitted
emitted_setting f s d = refl

pub emitted_address : (f : ℕ → Coded) (s : Setting) (d : Drafted)
    → emitted (with_address f) s d ≡ emitted (f (address_local s d.counts.addresses)) s (next_address d)
unfolding emitted
emitted_address f s d = refl

pub emitted_number : (f : ℕ → Coded) (s : Setting) (d : Drafted)
    → emitted (with_number f) s d ≡ emitted (f (number_local s d.counts.numbers)) s (next_number d)
unfolding emitted
emitted_number f s d = refl

pub emitted_text : (n : ℕ) (f : ℕ → Coded) (s : Setting) (d : Drafted)
    → emitted (with_text n f) s d ≡ emitted (f d.counts.texts) s (next_text n d)
unfolding emitted
emitted_text n f s d = refl

-- ---- the same with instructions behind, or before

pub then_plain : (x : Coded) (is : List Instr) (s : Setting) (d : Drafted)
    → emitted (x ⨾ plain is) s d ≡ put is (emitted x s d)
then_plain x is s d = emitted_seq x (plain is) s d ∙ emitted_plain is s (emitted x s d)

pub plain_then : (is : List Instr) (x : Coded) (s : Setting) (d : Drafted)
    → emitted (plain is ⨾ x) s d ≡ emitted x s (put is d)
plain_then is x s d = emitted_seq (plain is) x s d ∙ ap (λ (e : Drafted). emitted x s e) (emitted_plain is s d)

-- instructions that the setting knows
pub setting_plain : (f : Setting → List Instr) (s : Setting) (d : Drafted)
    → emitted (with_setting (λ s. plain (f s))) s d ≡ put (f s) d
setting_plain f s d = emitted_setting (λ s. plain (f s)) s d ∙ emitted_plain (f s) s d

pub then_setting : (x : Coded) (f : Setting → List Instr) (s : Setting) (d : Drafted)
    → emitted (x ⨾ with_setting (λ s. plain (f s))) s d ≡ put (f s) (emitted x s d)
then_setting x f s d = emitted_seq x (with_setting (λ s. plain (f s))) s d ∙ setting_plain f s (emitted x s d)

pub emitted_behind : (x : Coded) (f : Types → List Instr) (s : Setting) (d : Drafted)
    → emitted (behind x f) s d ≡ put (f s.home.types) (emitted x s d)
emitted_behind x f s d = then_setting x (λ s. f s.home.types) s d

pub emitted_two : (x y : Coded) (is : List Instr) (s : Setting) (d : Drafted)
    → emitted (two x y is) s d ≡ put is (emitted y s (emitted x s d))
emitted_two x y is s d = emitted_seq x (y ⨾ plain is) s d ∙ then_plain y is s (emitted x s d)
