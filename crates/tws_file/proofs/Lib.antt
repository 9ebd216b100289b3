pub mod Numbers
pub mod RecordText
pub mod FileText
pub mod Comparing
pub mod Words
pub mod Gathering
pub mod Packs
pub mod Rules
