-- what the schema of schemas says
pub mod MetaTypes
pub mod MetaForms
pub mod Fields
pub mod MetaFields
-- the schema that is built
pub mod MetaTests
pub mod TestedSchemas
pub mod MetaSchemas
pub mod PassedOn
