mod RisingLaws
mod EveryLaws
pub mod SitesLaws
pub mod ByteLaws
