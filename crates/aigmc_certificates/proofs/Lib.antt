pub mod OwnResets
