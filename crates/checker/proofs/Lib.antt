pub mod Said
pub mod CertificateLaws
pub mod AnyText
pub mod SourceLaws
pub mod StimulusLaws
pub mod ReaderLaws
