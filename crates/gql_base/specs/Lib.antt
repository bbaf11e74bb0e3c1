-- Five subjects: texts and tokens, the ways of grammars, the parts of trees, printed forms, and names. The file of each
-- tells which of its definitions are the meaning, cited by public contracts, and which serve proofs alone.
pub mod lexical
pub mod ways
pub mod parts
pub mod printing
pub mod names
