-- The texts of documents that are sent, and the responses to them.
pub mod SentTexts
pub mod SentResponses
