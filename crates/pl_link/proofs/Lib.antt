pub mod CanonLemmas
mod ConstantRows
pub mod HostCases
pub mod OriginParts
pub mod PartsLemmas
pub mod PlaceUrls
mod UrlHosts
mod UrlPaths
pub mod UrlTexts
