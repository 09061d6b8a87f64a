-- When a whole module has an encoding.
use Rattle.std.proofs.Common.{◌≡◌, ℕ, ◌^◌, true, false, ◌&&◌, ◌⊎◌, [], length, nat_lt, refl, inl, inr}
use Rattle.std.proofs.lemmas.Bool.{and_left, and_right, and_cases}
use Rattle.std.specs.List.{list_all}
use Rattle.wasm_tree.specs.declared.module.WModule.{WModule}
use Rattle.wasm_code.specs.Number.{groups, unsigned}
use Rattle.wasm_code.specs.Parts.{section}
use Rattle.wasm_binary.specs.Binary.{body, bodies_encoding, data_segment, element_segment, export, func_type, global, import, memory_type, module_fits, table_type, types_of}

pub no_bodies : nat_lt (length (bodies_encoding [])) (2 ^ 32) ≡ true
unfolding groups
no_bodies = refl

pub whole_fits : (m : WModule) → (section 1 func_type).fits m.types ≡ true → (section 2 import).fits m.imports ≡ true
    → (section 3 unsigned).fits (types_of m.functions) ≡ true
    → (section 4 table_type).fits m.tables ≡ true → (section 5 memory_type).fits m.memories ≡ true
    → (section 6 global).fits m.globals ≡ true → (section 7 export).fits m.exports ≡ true
    → (section 9 element_segment).fits m.elements ≡ true → list_all (λ f. body.fits f.body) m.functions ≡ true
    → nat_lt (length (bodies_encoding m.functions)) (2 ^ 32) ≡ true → (section 11 data_segment).fits m.data ≡ true
    → module_fits m ≡ true
unfolding module_fits
whole_fits m a b c d e f g h i j k = rw (a, b, c, d, e, f, g, h, i, j, k) refl

-- one part that does not fit
pub unfit_types : (m : WModule) → (section 1 func_type).fits m.types ≡ false → module_fits m ≡ false
unfolding module_fits
unfit_types m e = and_left ((section 1 func_type).fits m.types && (section 2 import).fits m.imports &&
    (section 3 unsigned).fits (types_of m.functions) && (section 4 table_type).fits m.tables &&
    (section 5 memory_type).fits m.memories && (section 6 global).fits m.globals && (section 7 export).fits m.exports &&
    (section 9 element_segment).fits m.elements && list_all (λ f. body.fits f.body) m.functions && nat_lt
    (length (bodies_encoding m.functions)) (2 ^ 32)) ((section 11 data_segment).fits m.data)
    (and_left ((section 1 func_type).fits m.types && (section 2 import).fits m.imports && (section 3 unsigned).fits
    (types_of m.functions) && (section 4 table_type).fits m.tables && (section 5 memory_type).fits m.memories &&
    (section 6 global).fits m.globals && (section 7 export).fits m.exports && (section 9 element_segment).fits
    m.elements && list_all (λ f. body.fits f.body) m.functions) (nat_lt (length (bodies_encoding m.functions)) (2 ^ 32))
    (and_left ((section 1 func_type).fits m.types && (section 2 import).fits m.imports && (section 3 unsigned).fits
    (types_of m.functions) && (section 4 table_type).fits m.tables && (section 5 memory_type).fits m.memories &&
    (section 6 global).fits m.globals && (section 7 export).fits m.exports && (section 9 element_segment).fits
    m.elements) (list_all (λ f. body.fits f.body) m.functions)
    (and_left ((section 1 func_type).fits m.types && (section 2 import).fits m.imports && (section 3 unsigned).fits
    (types_of m.functions) && (section 4 table_type).fits m.tables && (section 5 memory_type).fits m.memories &&
    (section 6 global).fits m.globals && (section 7 export).fits m.exports)
    ((section 9 element_segment).fits m.elements)
    (and_left ((section 1 func_type).fits m.types && (section 2 import).fits m.imports && (section 3 unsigned).fits
    (types_of m.functions) && (section 4 table_type).fits m.tables && (section 5 memory_type).fits m.memories &&
    (section 6 global).fits m.globals) ((section 7 export).fits m.exports)
    (and_left ((section 1 func_type).fits m.types && (section 2 import).fits m.imports && (section 3 unsigned).fits
    (types_of m.functions) && (section 4 table_type).fits m.tables && (section 5 memory_type).fits m.memories)
    ((section 6 global).fits m.globals) (and_left
    ((section 1 func_type).fits m.types && (section 2 import).fits m.imports && (section 3 unsigned).fits
    (types_of m.functions) && (section 4 table_type).fits m.tables) ((section 5 memory_type).fits m.memories)
    (and_left ((section 1 func_type).fits m.types && (section 2 import).fits m.imports && (section 3 unsigned).fits
    (types_of m.functions)) ((section 4 table_type).fits m.tables)
    (and_left ((section 1 func_type).fits m.types && (section 2 import).fits m.imports)
    ((section 3 unsigned).fits (types_of m.functions))
    (and_left ((section 1 func_type).fits m.types) ((section 2 import).fits m.imports) (e))))))))))

pub unfit_imports : (m : WModule) → (section 2 import).fits m.imports ≡ false → module_fits m ≡ false
unfolding module_fits
unfit_imports m e = and_left ((section 1 func_type).fits m.types && (section 2 import).fits m.imports &&
    (section 3 unsigned).fits (types_of m.functions) && (section 4 table_type).fits m.tables &&
    (section 5 memory_type).fits m.memories && (section 6 global).fits m.globals && (section 7 export).fits m.exports &&
    (section 9 element_segment).fits m.elements && list_all (λ f. body.fits f.body) m.functions && nat_lt
    (length (bodies_encoding m.functions)) (2 ^ 32)) ((section 11 data_segment).fits m.data)
    (and_left ((section 1 func_type).fits m.types && (section 2 import).fits m.imports && (section 3 unsigned).fits
    (types_of m.functions) && (section 4 table_type).fits m.tables && (section 5 memory_type).fits m.memories &&
    (section 6 global).fits m.globals && (section 7 export).fits m.exports && (section 9 element_segment).fits
    m.elements && list_all (λ f. body.fits f.body) m.functions) (nat_lt (length (bodies_encoding m.functions)) (2 ^ 32))
    (and_left ((section 1 func_type).fits m.types && (section 2 import).fits m.imports && (section 3 unsigned).fits
    (types_of m.functions) && (section 4 table_type).fits m.tables && (section 5 memory_type).fits m.memories &&
    (section 6 global).fits m.globals && (section 7 export).fits m.exports && (section 9 element_segment).fits
    m.elements) (list_all (λ f. body.fits f.body) m.functions)
    (and_left ((section 1 func_type).fits m.types && (section 2 import).fits m.imports && (section 3 unsigned).fits
    (types_of m.functions) && (section 4 table_type).fits m.tables && (section 5 memory_type).fits m.memories &&
    (section 6 global).fits m.globals && (section 7 export).fits m.exports)
    ((section 9 element_segment).fits m.elements)
    (and_left ((section 1 func_type).fits m.types && (section 2 import).fits m.imports && (section 3 unsigned).fits
    (types_of m.functions) && (section 4 table_type).fits m.tables && (section 5 memory_type).fits m.memories &&
    (section 6 global).fits m.globals) ((section 7 export).fits m.exports)
    (and_left ((section 1 func_type).fits m.types && (section 2 import).fits m.imports && (section 3 unsigned).fits
    (types_of m.functions) && (section 4 table_type).fits m.tables && (section 5 memory_type).fits m.memories)
    ((section 6 global).fits m.globals) (and_left
    ((section 1 func_type).fits m.types && (section 2 import).fits m.imports && (section 3 unsigned).fits
    (types_of m.functions) && (section 4 table_type).fits m.tables) ((section 5 memory_type).fits m.memories)
    (and_left ((section 1 func_type).fits m.types && (section 2 import).fits m.imports && (section 3 unsigned).fits
    (types_of m.functions)) ((section 4 table_type).fits m.tables)
    (and_left ((section 1 func_type).fits m.types && (section 2 import).fits m.imports)
    ((section 3 unsigned).fits (types_of m.functions))
    (and_right ((section 1 func_type).fits m.types) ((section 2 import).fits m.imports) e)))))))))

pub unfit_uses : (m : WModule) → (section 3 unsigned).fits (types_of m.functions) ≡ false → module_fits m ≡ false
unfolding module_fits
unfit_uses m e = and_left ((section 1 func_type).fits m.types && (section 2 import).fits m.imports &&
    (section 3 unsigned).fits (types_of m.functions) && (section 4 table_type).fits m.tables &&
    (section 5 memory_type).fits m.memories && (section 6 global).fits m.globals && (section 7 export).fits m.exports &&
    (section 9 element_segment).fits m.elements && list_all (λ f. body.fits f.body) m.functions && nat_lt
    (length (bodies_encoding m.functions)) (2 ^ 32)) ((section 11 data_segment).fits m.data)
    (and_left ((section 1 func_type).fits m.types && (section 2 import).fits m.imports && (section 3 unsigned).fits
    (types_of m.functions) && (section 4 table_type).fits m.tables && (section 5 memory_type).fits m.memories &&
    (section 6 global).fits m.globals && (section 7 export).fits m.exports && (section 9 element_segment).fits
    m.elements && list_all (λ f. body.fits f.body) m.functions) (nat_lt (length (bodies_encoding m.functions)) (2 ^ 32))
    (and_left ((section 1 func_type).fits m.types && (section 2 import).fits m.imports && (section 3 unsigned).fits
    (types_of m.functions) && (section 4 table_type).fits m.tables && (section 5 memory_type).fits m.memories &&
    (section 6 global).fits m.globals && (section 7 export).fits m.exports && (section 9 element_segment).fits
    m.elements) (list_all (λ f. body.fits f.body) m.functions)
    (and_left ((section 1 func_type).fits m.types && (section 2 import).fits m.imports && (section 3 unsigned).fits
    (types_of m.functions) && (section 4 table_type).fits m.tables && (section 5 memory_type).fits m.memories &&
    (section 6 global).fits m.globals && (section 7 export).fits m.exports)
    ((section 9 element_segment).fits m.elements)
    (and_left ((section 1 func_type).fits m.types && (section 2 import).fits m.imports && (section 3 unsigned).fits
    (types_of m.functions) && (section 4 table_type).fits m.tables && (section 5 memory_type).fits m.memories &&
    (section 6 global).fits m.globals) ((section 7 export).fits m.exports)
    (and_left ((section 1 func_type).fits m.types && (section 2 import).fits m.imports && (section 3 unsigned).fits
    (types_of m.functions) && (section 4 table_type).fits m.tables && (section 5 memory_type).fits m.memories)
    ((section 6 global).fits m.globals) (and_left
    ((section 1 func_type).fits m.types && (section 2 import).fits m.imports && (section 3 unsigned).fits
    (types_of m.functions) && (section 4 table_type).fits m.tables) ((section 5 memory_type).fits m.memories)
    (and_left ((section 1 func_type).fits m.types && (section 2 import).fits m.imports && (section 3 unsigned).fits
    (types_of m.functions)) ((section 4 table_type).fits m.tables)
    (and_right ((section 1 func_type).fits m.types && (section 2 import).fits m.imports)
    ((section 3 unsigned).fits (types_of m.functions)) e))))))))

pub unfit_tables : (m : WModule) → (section 4 table_type).fits m.tables ≡ false → module_fits m ≡ false
unfolding module_fits
unfit_tables m e = and_left ((section 1 func_type).fits m.types && (section 2 import).fits m.imports &&
    (section 3 unsigned).fits (types_of m.functions) && (section 4 table_type).fits m.tables &&
    (section 5 memory_type).fits m.memories && (section 6 global).fits m.globals && (section 7 export).fits m.exports &&
    (section 9 element_segment).fits m.elements && list_all (λ f. body.fits f.body) m.functions && nat_lt
    (length (bodies_encoding m.functions)) (2 ^ 32)) ((section 11 data_segment).fits m.data)
    (and_left ((section 1 func_type).fits m.types && (section 2 import).fits m.imports && (section 3 unsigned).fits
    (types_of m.functions) && (section 4 table_type).fits m.tables && (section 5 memory_type).fits m.memories &&
    (section 6 global).fits m.globals && (section 7 export).fits m.exports && (section 9 element_segment).fits
    m.elements && list_all (λ f. body.fits f.body) m.functions) (nat_lt (length (bodies_encoding m.functions)) (2 ^ 32))
    (and_left ((section 1 func_type).fits m.types && (section 2 import).fits m.imports && (section 3 unsigned).fits
    (types_of m.functions) && (section 4 table_type).fits m.tables && (section 5 memory_type).fits m.memories &&
    (section 6 global).fits m.globals && (section 7 export).fits m.exports && (section 9 element_segment).fits
    m.elements) (list_all (λ f. body.fits f.body) m.functions)
    (and_left ((section 1 func_type).fits m.types && (section 2 import).fits m.imports && (section 3 unsigned).fits
    (types_of m.functions) && (section 4 table_type).fits m.tables && (section 5 memory_type).fits m.memories &&
    (section 6 global).fits m.globals && (section 7 export).fits m.exports)
    ((section 9 element_segment).fits m.elements)
    (and_left ((section 1 func_type).fits m.types && (section 2 import).fits m.imports && (section 3 unsigned).fits
    (types_of m.functions) && (section 4 table_type).fits m.tables && (section 5 memory_type).fits m.memories &&
    (section 6 global).fits m.globals) ((section 7 export).fits m.exports)
    (and_left ((section 1 func_type).fits m.types && (section 2 import).fits m.imports && (section 3 unsigned).fits
    (types_of m.functions) && (section 4 table_type).fits m.tables && (section 5 memory_type).fits m.memories)
    ((section 6 global).fits m.globals) (and_left
    ((section 1 func_type).fits m.types && (section 2 import).fits m.imports && (section 3 unsigned).fits
    (types_of m.functions) && (section 4 table_type).fits m.tables) ((section 5 memory_type).fits m.memories)
    (and_right ((section 1 func_type).fits m.types && (section 2 import).fits m.imports && (section 3 unsigned).fits
    (types_of m.functions)) ((section 4 table_type).fits m.tables) e)))))))

pub unfit_memories : (m : WModule) → (section 5 memory_type).fits m.memories ≡ false → module_fits m ≡ false
unfolding module_fits
unfit_memories m e = and_left ((section 1 func_type).fits m.types && (section 2 import).fits m.imports &&
    (section 3 unsigned).fits (types_of m.functions) && (section 4 table_type).fits m.tables &&
    (section 5 memory_type).fits m.memories && (section 6 global).fits m.globals && (section 7 export).fits m.exports &&
    (section 9 element_segment).fits m.elements && list_all (λ f. body.fits f.body) m.functions && nat_lt
    (length (bodies_encoding m.functions)) (2 ^ 32)) ((section 11 data_segment).fits m.data)
    (and_left ((section 1 func_type).fits m.types && (section 2 import).fits m.imports && (section 3 unsigned).fits
    (types_of m.functions) && (section 4 table_type).fits m.tables && (section 5 memory_type).fits m.memories &&
    (section 6 global).fits m.globals && (section 7 export).fits m.exports && (section 9 element_segment).fits
    m.elements && list_all (λ f. body.fits f.body) m.functions) (nat_lt (length (bodies_encoding m.functions)) (2 ^ 32))
    (and_left ((section 1 func_type).fits m.types && (section 2 import).fits m.imports && (section 3 unsigned).fits
    (types_of m.functions) && (section 4 table_type).fits m.tables && (section 5 memory_type).fits m.memories &&
    (section 6 global).fits m.globals && (section 7 export).fits m.exports && (section 9 element_segment).fits
    m.elements) (list_all (λ f. body.fits f.body) m.functions)
    (and_left ((section 1 func_type).fits m.types && (section 2 import).fits m.imports && (section 3 unsigned).fits
    (types_of m.functions) && (section 4 table_type).fits m.tables && (section 5 memory_type).fits m.memories &&
    (section 6 global).fits m.globals && (section 7 export).fits m.exports)
    ((section 9 element_segment).fits m.elements)
    (and_left ((section 1 func_type).fits m.types && (section 2 import).fits m.imports && (section 3 unsigned).fits
    (types_of m.functions) && (section 4 table_type).fits m.tables && (section 5 memory_type).fits m.memories &&
    (section 6 global).fits m.globals) ((section 7 export).fits m.exports)
    (and_left ((section 1 func_type).fits m.types && (section 2 import).fits m.imports && (section 3 unsigned).fits
    (types_of m.functions) && (section 4 table_type).fits m.tables && (section 5 memory_type).fits m.memories)
    ((section 6 global).fits m.globals) (and_right
    ((section 1 func_type).fits m.types && (section 2 import).fits m.imports && (section 3 unsigned).fits
    (types_of m.functions) && (section 4 table_type).fits m.tables) ((section 5 memory_type).fits m.memories) e))))))

pub unfit_globals : (m : WModule) → (section 6 global).fits m.globals ≡ false → module_fits m ≡ false
unfolding module_fits
unfit_globals m e = and_left ((section 1 func_type).fits m.types && (section 2 import).fits m.imports &&
    (section 3 unsigned).fits (types_of m.functions) && (section 4 table_type).fits m.tables &&
    (section 5 memory_type).fits m.memories && (section 6 global).fits m.globals && (section 7 export).fits m.exports &&
    (section 9 element_segment).fits m.elements && list_all (λ f. body.fits f.body) m.functions && nat_lt
    (length (bodies_encoding m.functions)) (2 ^ 32)) ((section 11 data_segment).fits m.data)
    (and_left ((section 1 func_type).fits m.types && (section 2 import).fits m.imports && (section 3 unsigned).fits
    (types_of m.functions) && (section 4 table_type).fits m.tables && (section 5 memory_type).fits m.memories &&
    (section 6 global).fits m.globals && (section 7 export).fits m.exports && (section 9 element_segment).fits
    m.elements && list_all (λ f. body.fits f.body) m.functions) (nat_lt (length (bodies_encoding m.functions)) (2 ^ 32))
    (and_left ((section 1 func_type).fits m.types && (section 2 import).fits m.imports && (section 3 unsigned).fits
    (types_of m.functions) && (section 4 table_type).fits m.tables && (section 5 memory_type).fits m.memories &&
    (section 6 global).fits m.globals && (section 7 export).fits m.exports && (section 9 element_segment).fits
    m.elements) (list_all (λ f. body.fits f.body) m.functions)
    (and_left ((section 1 func_type).fits m.types && (section 2 import).fits m.imports && (section 3 unsigned).fits
    (types_of m.functions) && (section 4 table_type).fits m.tables && (section 5 memory_type).fits m.memories &&
    (section 6 global).fits m.globals && (section 7 export).fits m.exports)
    ((section 9 element_segment).fits m.elements)
    (and_left ((section 1 func_type).fits m.types && (section 2 import).fits m.imports && (section 3 unsigned).fits
    (types_of m.functions) && (section 4 table_type).fits m.tables && (section 5 memory_type).fits m.memories &&
    (section 6 global).fits m.globals) ((section 7 export).fits m.exports)
    (and_right ((section 1 func_type).fits m.types && (section 2 import).fits m.imports && (section 3 unsigned).fits
    (types_of m.functions) && (section 4 table_type).fits m.tables && (section 5 memory_type).fits m.memories)
    ((section 6 global).fits m.globals) e)))))

pub unfit_exports : (m : WModule) → (section 7 export).fits m.exports ≡ false → module_fits m ≡ false
unfolding module_fits
unfit_exports m e = and_left ((section 1 func_type).fits m.types && (section 2 import).fits m.imports &&
    (section 3 unsigned).fits (types_of m.functions) && (section 4 table_type).fits m.tables &&
    (section 5 memory_type).fits m.memories && (section 6 global).fits m.globals && (section 7 export).fits m.exports &&
    (section 9 element_segment).fits m.elements && list_all (λ f. body.fits f.body) m.functions && nat_lt
    (length (bodies_encoding m.functions)) (2 ^ 32)) ((section 11 data_segment).fits m.data)
    (and_left ((section 1 func_type).fits m.types && (section 2 import).fits m.imports && (section 3 unsigned).fits
    (types_of m.functions) && (section 4 table_type).fits m.tables && (section 5 memory_type).fits m.memories &&
    (section 6 global).fits m.globals && (section 7 export).fits m.exports && (section 9 element_segment).fits
    m.elements && list_all (λ f. body.fits f.body) m.functions) (nat_lt (length (bodies_encoding m.functions)) (2 ^ 32))
    (and_left ((section 1 func_type).fits m.types && (section 2 import).fits m.imports && (section 3 unsigned).fits
    (types_of m.functions) && (section 4 table_type).fits m.tables && (section 5 memory_type).fits m.memories &&
    (section 6 global).fits m.globals && (section 7 export).fits m.exports && (section 9 element_segment).fits
    m.elements) (list_all (λ f. body.fits f.body) m.functions)
    (and_left ((section 1 func_type).fits m.types && (section 2 import).fits m.imports && (section 3 unsigned).fits
    (types_of m.functions) && (section 4 table_type).fits m.tables && (section 5 memory_type).fits m.memories &&
    (section 6 global).fits m.globals && (section 7 export).fits m.exports)
    ((section 9 element_segment).fits m.elements)
    (and_right ((section 1 func_type).fits m.types && (section 2 import).fits m.imports && (section 3 unsigned).fits
    (types_of m.functions) && (section 4 table_type).fits m.tables && (section 5 memory_type).fits m.memories &&
    (section 6 global).fits m.globals) ((section 7 export).fits m.exports) e))))

pub unfit_elements : (m : WModule) → (section 9 element_segment).fits m.elements ≡ false → module_fits m ≡ false
unfolding module_fits
unfit_elements m e = and_left ((section 1 func_type).fits m.types && (section 2 import).fits m.imports &&
    (section 3 unsigned).fits (types_of m.functions) && (section 4 table_type).fits m.tables &&
    (section 5 memory_type).fits m.memories && (section 6 global).fits m.globals && (section 7 export).fits m.exports &&
    (section 9 element_segment).fits m.elements && list_all (λ f. body.fits f.body) m.functions && nat_lt
    (length (bodies_encoding m.functions)) (2 ^ 32)) ((section 11 data_segment).fits m.data)
    (and_left ((section 1 func_type).fits m.types && (section 2 import).fits m.imports && (section 3 unsigned).fits
    (types_of m.functions) && (section 4 table_type).fits m.tables && (section 5 memory_type).fits m.memories &&
    (section 6 global).fits m.globals && (section 7 export).fits m.exports && (section 9 element_segment).fits
    m.elements && list_all (λ f. body.fits f.body) m.functions) (nat_lt (length (bodies_encoding m.functions)) (2 ^ 32))
    (and_left ((section 1 func_type).fits m.types && (section 2 import).fits m.imports && (section 3 unsigned).fits
    (types_of m.functions) && (section 4 table_type).fits m.tables && (section 5 memory_type).fits m.memories &&
    (section 6 global).fits m.globals && (section 7 export).fits m.exports && (section 9 element_segment).fits
    m.elements) (list_all (λ f. body.fits f.body) m.functions)
    (and_right ((section 1 func_type).fits m.types && (section 2 import).fits m.imports && (section 3 unsigned).fits
    (types_of m.functions) && (section 4 table_type).fits m.tables && (section 5 memory_type).fits m.memories &&
    (section 6 global).fits m.globals && (section 7 export).fits m.exports)
    ((section 9 element_segment).fits m.elements) e)))

pub unfit_bodies : (m : WModule) → list_all (λ f. body.fits f.body) m.functions ≡ false → module_fits m ≡ false
unfolding module_fits
unfit_bodies m e = and_left ((section 1 func_type).fits m.types && (section 2 import).fits m.imports &&
    (section 3 unsigned).fits (types_of m.functions) && (section 4 table_type).fits m.tables &&
    (section 5 memory_type).fits m.memories && (section 6 global).fits m.globals && (section 7 export).fits m.exports &&
    (section 9 element_segment).fits m.elements && list_all (λ f. body.fits f.body) m.functions && nat_lt
    (length (bodies_encoding m.functions)) (2 ^ 32)) ((section 11 data_segment).fits m.data)
    (and_left ((section 1 func_type).fits m.types && (section 2 import).fits m.imports && (section 3 unsigned).fits
    (types_of m.functions) && (section 4 table_type).fits m.tables && (section 5 memory_type).fits m.memories &&
    (section 6 global).fits m.globals && (section 7 export).fits m.exports && (section 9 element_segment).fits
    m.elements && list_all (λ f. body.fits f.body) m.functions) (nat_lt (length (bodies_encoding m.functions)) (2 ^ 32))
    (and_right ((section 1 func_type).fits m.types && (section 2 import).fits m.imports && (section 3 unsigned).fits
    (types_of m.functions) && (section 4 table_type).fits m.tables && (section 5 memory_type).fits m.memories &&
    (section 6 global).fits m.globals && (section 7 export).fits m.exports && (section 9 element_segment).fits
    m.elements) (list_all (λ f. body.fits f.body) m.functions) e))

pub unfit_size : (m : WModule) → nat_lt (length (bodies_encoding m.functions)) (2 ^ 32) ≡ false → module_fits m ≡ false
unfolding module_fits
unfit_size m e = and_left ((section 1 func_type).fits m.types && (section 2 import).fits m.imports &&
    (section 3 unsigned).fits (types_of m.functions) && (section 4 table_type).fits m.tables &&
    (section 5 memory_type).fits m.memories && (section 6 global).fits m.globals && (section 7 export).fits m.exports &&
    (section 9 element_segment).fits m.elements && list_all (λ f. body.fits f.body) m.functions && nat_lt
    (length (bodies_encoding m.functions)) (2 ^ 32)) ((section 11 data_segment).fits m.data)
    (and_right ((section 1 func_type).fits m.types && (section 2 import).fits m.imports && (section 3 unsigned).fits
    (types_of m.functions) && (section 4 table_type).fits m.tables && (section 5 memory_type).fits m.memories &&
    (section 6 global).fits m.globals && (section 7 export).fits m.exports && (section 9 element_segment).fits
    m.elements && list_all (λ f. body.fits f.body) m.functions) (nat_lt (length (bodies_encoding m.functions)) (2 ^ 32))
    e)

pub unfit_contents : (m : WModule) → (section 11 data_segment).fits m.data ≡ false → module_fits m ≡ false
unfolding module_fits
unfit_contents m e = and_right ((section 1 func_type).fits m.types && (section 2 import).fits m.imports &&
    (section 3 unsigned).fits (types_of m.functions) && (section 4 table_type).fits m.tables &&
    (section 5 memory_type).fits m.memories && (section 6 global).fits m.globals && (section 7 export).fits m.exports &&
    (section 9 element_segment).fits m.elements && list_all (λ f. body.fits f.body) m.functions && nat_lt
    (length (bodies_encoding m.functions)) (2 ^ 32)) ((section 11 data_segment).fits m.data) e

unfit_either : (m : WModule) → (list_all (λ f. body.fits f.body) m.functions ≡ false)
    ⊎ (nat_lt (length (bodies_encoding m.functions)) (2 ^ 32) ≡ false) → module_fits m ≡ false
unfit_either m (inl e) = unfit_bodies m e
unfit_either m (inr e) = unfit_size m e

pub unfit_code : (m : WModule) → (list_all (λ f. body.fits f.body) m.functions && nat_lt
    (length (bodies_encoding m.functions)) (2 ^ 32)) ≡ false → module_fits m ≡ false
unfit_code m e = unfit_either m (and_cases (list_all (λ f. body.fits f.body) m.functions)
    (nat_lt (length (bodies_encoding m.functions)) (2 ^ 32)) e)
