pub mod EachLaws
pub mod HeadLaws
pub mod SectionLaws
pub mod CertificateLaws
pub mod LineLaws
pub mod StreamLaws
pub mod PutLaws
