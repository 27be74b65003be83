pub mod NumberLists
pub mod EventsAgain
pub mod EventsFit
